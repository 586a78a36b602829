-- The files of a store in memory, as the code finds them.
use Rattle.std.proofs.Common.{◌≡◌, ℕ, Bool, true, false, List, [], ◌∷◌, Option, None, Some, Result, Ok, Err, IfOk, refl, find, string_bytes, String, Vec, if◌then◌else◌, ap, sym, ◌∙◌}
use Rattle.std.specs.declared.alloc.Global.{Global}
use Rattle.std.specs.Option.{option_map}
use Rattle.std.specs.Str.{bytes_eq}
use Rattle.ojp_outside.specs.Files.{first_named}
use Rattle.ojp_outside.specs.Memory.{named_contents}
use Rattle.ojp_outside.specs.declared.store.StoreRefused.{StoreRefused}

chosen : {A B : Type 0} (f : A → B) (b : Bool) (x : A) (r : Option A) → option_map f (if b then Some x else r) ≡ (if b then Some (f x) else option_map f r)
chosen f true x r = refl
chosen f false x r = refl

-- the first file of this name
pub first_named_is : (files : List (String Global × Vec ℕ Global)) (name : List ℕ)
    → first_named (named_contents files) name ≡ option_map (λ f. f.1.items) (find (λ f. bytes_eq (string_bytes f.0) name) files)
first_named_is [] name = refl
first_named_is (file ∷ files) name =
    let b = bytes_eq (string_bytes file.0) name in
    ap (λ (r : Option (List ℕ)). if b then Some file.1.items else r) (first_named_is files name)
    ∙ sym (chosen (λ (f : String Global × Vec ℕ Global). f.1.items) b file (find (λ f. bytes_eq (string_bytes f.0) name) files))

-- what was found are the contents of this name
pub named_found : (view : List (List ℕ × List ℕ)) (files all : List (String Global × Vec ℕ Global)) (name bytes : List ℕ)
    → named_contents all ≡ view → files ≡ all
    → Some bytes ≡ option_map (λ f. f.1.items) (find (λ f. bytes_eq (string_bytes f.0) name) files)
    → first_named view name ≡ Some bytes
named_found view files all name bytes v f e =
    ap (λ (l : List (List ℕ × List ℕ)). first_named l name) (sym v ∙ ap named_contents (sym f)) ∙ first_named_is files name ∙ sym e

-- no file has this name
pub named_missing : (view : List (List ℕ × List ℕ)) (files all : List (String Global × Vec ℕ Global)) (name : List ℕ)
    → named_contents all ≡ view → files ≡ all
    → None ≡ option_map (λ f. f.1.items) (find (λ f. bytes_eq (string_bytes f.0) name) files)
    → first_named view name ≡ None
named_missing view files all name v f e =
    ap (λ (l : List (List ℕ × List ℕ)). first_named l name) (sym v ∙ ap named_contents (sym f)) ∙ first_named_is files name ∙ sym e

-- a copy of the contents is the contents
pub named_copied : (r : Result (Vec ℕ Global) StoreRefused) (named : Option (List ℕ)) (bytes : List ℕ)
    → named ≡ Some bytes → IfOk r (λ copy. copy.items ≡ bytes) → IfOk r (λ copy. named ≡ Some copy.items)
named_copied (Ok copy) named bytes e h = e ∙ ap Some (sym h)
named_copied (Err failed) named bytes e h = tt
