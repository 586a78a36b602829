use Rattle.std.proofs.Common.{subst}
use Rattle.ojp_exchange.specs.Kept.{IsWellBook}
use Rattle.ojp_exchange.proofs.WellBook.{well_book}
use Rattle.ojp_exchange.proofs.book.Book.is_well.Goals as goal

pub returns : goal.returns
returns c = subst IsWellBook c.self.view_is (well_book c.self.inside.codes.items c.self.inside.points.items c.self.invariant.kept c.self.invariant.sound)
