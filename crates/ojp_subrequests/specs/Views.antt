-- A subrequest, as its callers see it.
use Rattle.std.specs.Prelude.{ℕ, Bool}
use Rattle.ojp_links.specs.declared.expect.Expect.{Expect}
use Rattle.ojp_subrequests.specs.Hearing.{HearingView}

-- its ask's key, its region, what it expects, what it has heard so far, and whether it is over
pub record SubView : Type 0 where
  pub key : ℕ
  pub region : ℕ
  pub expect : Expect
  pub heard : HearingView
  pub over : Bool
