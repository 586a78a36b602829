-- Files by name.
use Rattle.std.specs.Prelude.{◌≡◌, ℕ, List, [], ◌∷◌, length, if◌then◌else◌, IfSome, Result, Ok, Err, Option, Some, None}
use Rattle.std.specs.Str.{bytes_eq}
use Rattle.ojp_outside.specs.Causes.{next_count}
use Rattle.ojp_outside.specs.declared.store.StoreRefused.{StoreRefused}
use Rattle.ojp_outside.specs.declared.store.StoreRefused.TheVariants.{Failed, TooLong, NoMemory}

-- the told contents of this name are these bytes
abbrev pub IsContents : Option (List ℕ → Option (List ℕ)) → List ℕ → List ℕ → Type 0
IsContents contents name bytes = IfSome contents (λ files. files name ≡ Some bytes)

-- the told name of the last read that failed, after a read of this name
abbrev pub failed_name_after : {T : Type 0} → Option (Option (List ℕ)) → Result T StoreRefused → List ℕ → Option (Option (List ℕ))
failed_name_after None result name = None
failed_name_after (Some before) (Ok bytes) name = Some before
failed_name_after (Some before) (Err Failed) name = Some (Some name)
failed_name_after (Some before) (Err TooLong) name = Some before
failed_name_after (Some before) (Err NoMemory) name = Some before

-- the count of faults after a read: it rises where the read failed, and nowhere else
abbrev pub faults_after_read : {T : Type 0} → Result T StoreRefused → ℕ → ℕ
faults_after_read (Ok bytes) faults = faults
faults_after_read (Err Failed) faults = next_count faults
faults_after_read (Err TooLong) faults = faults
faults_after_read (Err NoMemory) faults = faults

-- the contents of the first file of this name
abbrev pub first_named : List (List ℕ × List ℕ) → List ℕ → Option (List ℕ)
first_named [] name = None
first_named (file ∷ files) name = if bytes_eq file.0 name then Some file.1 else first_named files name
