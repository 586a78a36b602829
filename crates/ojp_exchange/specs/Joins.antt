-- How the lists of regions make a book, and where they are refused.
use Rattle.std.specs.Prelude.{◌≡◌, ℕ, ◌<◌, ◌≤◌, ◌⊎◌, false, if◌then◌else◌, List, [], ◌∷◌, Option, Some, None, length}
use Rattle.std.specs.List.{count_by}
use Rattle.ojp_values.specs.Lists.{Among, Each}
use Rattle.ojp_values.specs.Texts.{Text, same, text_lt}
use Rattle.ojp_timetable.specs.Points.{AreWellPoints}
use Rattle.ojp_exchange.specs.declared.region_points.RegionPoints.{RegionPoints}
use Rattle.ojp_exchange.specs.declared.refusals.BookRefused.{BookRefused}
use Rattle.ojp_exchange.specs.declared.refusals.BookRefused.TheVariants as refusals
use Rattle.ojp_exchange.specs.Book.{Book, HasReturn, IsBookOf, Link, link_lt}
use Rattle.ojp_exchange.specs.Kept.{IsSound, stops_of}

-- each list is what a region may declare
abbrev pub AreWellLists : List RegionPoints → Type 0
AreWellLists lists = Each (λ (list : RegionPoints). AreWellPoints list.code list.points) lists

-- the first code that stands twice in a row
abbrev pub first_twice : List Text → Option Text
first_twice [] = None
first_twice (code ∷ []) = None
first_twice (code ∷ next ∷ more) = if same code next then Some code else first_twice (next ∷ more)

-- how many of the lists have the code
abbrev pub times : List RegionPoints → Text → ℕ
times lists code = count_by (λ (list : RegionPoints). same code list.code) lists

-- the least code that two lists have
pub record IsLeastTwice (lists : List RegionPoints) (code : Text) : Type 0 where
  pub twice : 2 ≤ times lists code
  pub least : (other : Text) → 2 ≤ times lists other → text_lt other code ≡ false

-- no two lists have one code
abbrev pub HaveOwnCodes : List RegionPoints → Type 0
HaveOwnCodes lists = (code : Text) → times lists code ≤ 1

-- the lists are of more than 32 regions, or have more than 2,000 stops
abbrev pub AreTooMany : List RegionPoints → Type 0
AreTooMany lists = (32 < length lists) ⊎ ((book : Book) × IsBookOf lists book × (2000 < length (stops_of book.spots)))

-- the link is to a region of the book that does not return it
abbrev pub IsOneSided : Book → Link → Type 0
IsOneSided book link = Among link book.links × Among link.other book.codes × (HasReturn book link → ⊥)

-- the regions disagree at the link, and at none before it
pub record IsFirstDispute (book : Book) (point left right : Text) : Type 0 where
  pub link : Link
  pub one_sided : IsOneSided book link
  pub point_is : link.stop ≡ point
  pub left_is : link.region ≡ left
  pub right_is : link.other ≡ right
  pub least : (other : Link) → IsOneSided book other → link_lt other link ≡ false

-- the book of the lists, within its limits and agreed
pub record IsJoined (lists : List RegionPoints) (book : Book) : Type 0 where
  pub own : HaveOwnCodes lists
  pub book_of : IsBookOf lists book
  pub sound : IsSound book

pub record IsDispute (lists : List RegionPoints) (point left right : Text) : Type 0 where
  pub own : HaveOwnCodes lists
  pub book : Book
  pub book_of : IsBookOf lists book
  pub regions_few : length book.codes ≤ 32
  pub stops_few : length (stops_of book.spots) ≤ 2000
  pub first : IsFirstDispute book point left right

-- why the lists make no book: the first of these that applies; want of memory may come at any lists
abbrev pub JoinFails : List RegionPoints → BookRefused → Type 0
JoinFails lists (refusals.TwiceRegion code) = IsLeastTwice lists code
JoinFails lists refusals.TooMany = HaveOwnCodes lists × AreTooMany lists
JoinFails lists (refusals.Disagree point left right) = IsDispute lists point left right
JoinFails lists refusals.NoMemory = Unit {0}
