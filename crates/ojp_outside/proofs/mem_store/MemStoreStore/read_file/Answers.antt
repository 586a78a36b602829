use Rattle.std.proofs.Common.{◌≡◌, ◌<◌, List, ℕ, ap, length, subst, sym, Option, inr}
use Rattle.std.specs.Prelude.{IsSomeAnd}
use Rattle.ojp_outside.specs.Memory.{MemStoreView}
use Rattle.ojp_outside.specs.declared.store.TheConstants.{FILE_LIMIT}
use Rattle.ojp_outside.proofs.Named.{named_found, named_copied, named_missing}
use Rattle.ojp_outside.proofs.mem_store.MemStoreStore.read_file.Goals as goal

pub returns-in-Some-clause-ok : goal.returns-in-Some-clause-ok
returns-in-Some-clause-ok c =
    named_copied _ _ _ (named_found _ _ _ _ _ (ap (λ (v : MemStoreView). v.files) c.self.view_is) c.deref.ensures.value c.in-Some.ensures) c.whole.ensures.ok

pub returns-in-Some-clause-missing : goal.returns-in-Some-clause-missing
returns-in-Some-clause-missing c =
    λ none. let e = named_found _ _ _ _ _ (ap (λ (v : MemStoreView). v.files) c.self.view_is) c.deref.ensures.value c.in-Some.ensures in absurd (cc)

pub returns-in-Some-clause-too_long : goal.returns-in-Some-clause-too_long
returns-in-Some-clause-too_long c =
    λ is.
    let e = named_found _ _ _ _ _ (ap (λ (v : MemStoreView). v.files) c.self.view_is) c.deref.ensures.value c.in-Some.ensures in
    subst (λ (o : Option (List ℕ)). IsSomeAnd o (λ bytes. FILE_LIMIT < length bytes)) (sym e) (c.whole.ensures.too_long is)

pub returns-in-None-clause-failed_only : goal.returns-in-None-clause-failed_only
returns-in-None-clause-failed_only c =
    λ is. inr (named_missing _ _ _ _ (ap (λ (v : MemStoreView). v.files) c.self.view_is) c.deref.ensures.value c.in-None.ensures)
