use Rattle.std.proofs.Common.{◌≡◌, ◌<◌, Option, Some, Result, Ok, Err, length}
use Rattle.std.specs.Prelude.{IfErr, IfOk, IsSomeAnd}
use Rattle.std.specs.Io.Cursor.{cursor_remaining}
use Rattle.ojp_values.specs.Texts.{Text}
use Rattle.ojp_feed_lines.proofs.Named.{named_found, named_missing, of_named}
use Rattle.ojp_feed_lines.specs.declared.folder.TheConstants.{MOST_BYTES}
use Rattle.ojp_feed_lines.specs.declared.folder.OpenRefused.{OpenRefused}
use Rattle.ojp_feed_lines.specs.declared.folder.OpenRefused.TheVariants.{TooLong}
use Rattle.ojp_feed_lines.specs.declared.mem_folder.MemReader.{MemReader}
use Rattle.ojp_feed_lines.proofs.mem_folder.MemFolderFolder.open.Goals as goal

opened : (r : Result MemReader OpenRefused) (named : Option Text) (bytes : Text)
    → named ≡ Some bytes → IfOk r (λ reader. cursor_remaining (λ v. Some v.items) reader.bytes ≡ Some bytes)
    → IfOk r (λ reader. IsSomeAnd named (λ found. cursor_remaining (λ v. Some v.items) reader.bytes ≡ Some found))
opened (Ok reader) named bytes is h = of_named named bytes (λ found. cursor_remaining (λ v. Some v.items) reader.bytes ≡ Some found) is h
opened (Err refused) named bytes is h = tt

long : (r : Result MemReader OpenRefused) (named : Option Text) (bytes : Text)
    → named ≡ Some bytes → IfErr r (λ e. e ≡ TooLong → MOST_BYTES < length bytes) → r ≡ Err TooLong → IsSomeAnd named (λ found. MOST_BYTES < length found)
long (Ok reader) named bytes is h e = absurd (cc e)
long (Err refused) named bytes is h e = of_named named bytes (λ found. MOST_BYTES < length found) is (h (cc e))

pub returns-in-Some-clause-opened : goal.returns-in-Some-clause-opened
returns-in-Some-clause-opened c = opened _ _ _ (named_found _ _ _ _ _ c.deref.ensures.value c.name.ensures c.in-Some.ensures) c.reader_of.ensures.opened

pub returns-in-Some-clause-too_long : goal.returns-in-Some-clause-too_long
returns-in-Some-clause-too_long c = long _ _ _ (named_found _ _ _ _ _ c.deref.ensures.value c.name.ensures c.in-Some.ensures) c.reader_of.ensures.too_long

pub returns-in-None-clause-missing : goal.returns-in-None-clause-missing
returns-in-None-clause-missing c = λ _. named_missing _ _ _ _ c.deref.ensures.value c.name.ensures c.in-None.ensures
