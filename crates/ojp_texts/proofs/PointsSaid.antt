-- Exchange points and their neighbours are those that lines declare.
use Rattle.std.proofs.Common.{◌≡◌, ◌⊎◌, inl, inr, ℕ, Bool, true, false, not, ◌&&◌, cond, true≢false, List, [], ◌∷◌, ◌++◌, refl, sym, ◌∙◌, ap, subst}
use Rattle.std.specs.Prelude.{Option, Some, None, find, option_map, unwrap_or}
use Rattle.ojp_values.specs.Lists.{Among}
use Rattle.ojp_values.specs.Texts.{Text, is_exchange, same}
use Rattle.ojp_values.specs.declared.trips.Neighbour.{Neighbour}
use Rattle.ojp_values.specs.declared.trips.Point.{Point}
use Rattle.ojp_values.proofs.ListFacts.{among_append, among_list_any, among_list_any_back}
use Rattle.ojp_timetable.specs.Tables.{Place, Timetable}
use Rattle.ojp_timetable.specs.Checks.{has_neighbour, lacks_stop}
use Rattle.ojp_timetable.specs.Contents.{Contents, has_place, neighbours_at, point_at, point_with, points_with, with_point}
use Rattle.ojp_timetable.specs.Lines.{grown, new_point, no_lines}
use Rattle.ojp_timetable.specs.SaidLines.{say}
use Rattle.ojp_timetable.specs.TableText.{above_of, lines_of}
use Rattle.ojp_timetable.specs.declared.file.lines.Line.{Line}
use Rattle.ojp_timetable.specs.declared.file.lines.Line.TheVariants as lines
use Rattle.ojp_timetable.proofs.AmongFacts.{among_insert, among_insert_or, among_inserted}
use Rattle.ojp_timetable.proofs.PointsKept.{points_of_lines}
use Rattle.ojp_timetable.proofs.TextFacts.{same_is, same_itself}
use Rattle.ojp_texts.specs.PointsSaid.{ArePointsSaid, HasNeighbour, HasPoint, NeighboursAreAsSaid, PointsAreAsSaid}
use Rattle.ojp_texts.proofs.LineSteps.{contents_said, declared, stops_said, told}
use Rattle.ojp_texts.proofs.NeighbourSteps.{among_with, finds, found_among, gets_with, stays_with}

-- ---- points

abbrev DeclaresPoint : Text → ℕ → Line → Type 0
DeclaresPoint stop change line = (name : Text) × (is_exchange stop ≡ true) × (line ≡ lines.Place stop change name)

-- a place more
point_back : (stop : Text) (change : ℕ) (contents : Contents) (at : Text) (time : ℕ) (name : Text) (b : Bool) → is_exchange at ≡ b
    → HasPoint (cond b (with_point contents.points (new_point contents.region at time)) contents.points) stop change
    → HasPoint contents.points stop change ⊎ DeclaresPoint stop change (lines.Place at time name)
point_back stop change contents at time name false e h = inl h
point_back stop change contents at time name true e (point, among, is, lasts) =
    elim (among_insert_or point contents.points _ (new_point contents.region at time) among) [
      | inl old ↦ inl (point, old, is, lasts)
      | inr new ↦
          let same_stop : at ≡ stop = ap (λ (p : Point). p.stop) (sym new) ∙ is in
          let same_time : time ≡ change = ap (λ (p : Point). p.change) (sym new) ∙ lasts in
          inr (name, ap is_exchange (sym same_stop) ∙ e, ap (λ (s : Text). lines.Place s time name) same_stop ∙ ap (λ (c : ℕ). lines.Place stop c name) same_time)
    ]

point_told : (stop : Text) (change : ℕ) (contents : Contents) (line : Line) → HasPoint (grown contents line).points stop change → HasPoint contents.points stop change ⊎ DeclaresPoint stop change line
point_told stop change contents lines.Header h = inl h
point_told stop change contents (lines.Region code) h = inl h
point_told stop change contents (lines.Zone zone) h = inl h
point_told stop change contents (lines.Place at time name) h = point_back stop change contents at time name (is_exchange at) refl h
point_told stop change contents (lines.Neighbour at neighbour) (point, among, is, lasts) = elim (among_with point contents.points at neighbour among) [
  | inl old ↦ inl (point, old, is, lasts)
  | inr new ↦ inl (new.0, new.1, ap (λ (p : Point). p.stop) (sym new.3) ∙ is, ap (λ (p : Point). p.change) (sym new.3) ∙ lasts)
]
point_told stop change contents (lines.Service id dates) h = inl h
point_told stop change contents (lines.Journey id service line) h = inl h
point_told stop change contents (lines.Call call) h = inl h

point_in : (stop : Text) (change : ℕ) (contents : Contents) (at : Text) (time : ℕ) (b : Bool) → HasPoint contents.points stop change
    → HasPoint (cond b (with_point contents.points (new_point contents.region at time)) contents.points) stop change
point_in stop change contents at time false h = h
point_in stop change contents at time true (point, among, is, lasts) = (point, among_insert point contents.points _ (new_point contents.region at time) among, is, lasts)

point_kept : (stop : Text) (change : ℕ) (contents : Contents) (line : Line) → HasPoint contents.points stop change → HasPoint (grown contents line).points stop change
point_kept stop change contents lines.Header h = h
point_kept stop change contents (lines.Region code) h = h
point_kept stop change contents (lines.Zone zone) h = h
point_kept stop change contents (lines.Place at time name) h = point_in stop change contents at time (is_exchange at) h
point_kept stop change contents (lines.Neighbour at neighbour) (point, among, is, lasts) = elim (stays_with point contents.points at neighbour among) [
  | inl old ↦ (point, old, is, lasts)
  | inr new ↦ (point_with point neighbour, new, is, lasts)
]
point_kept stop change contents (lines.Service id dates) h = h
point_kept stop change contents (lines.Journey id service line) h = h
point_kept stop change contents (lines.Call call) h = h

point_added : (contents : Contents) (stop : Text) (change : ℕ) (b : Bool) → b ≡ true → HasPoint (cond b (with_point contents.points (new_point contents.region stop change)) contents.points) stop change
point_added contents stop change true e = (new_point contents.region stop change, among_inserted contents.points _ (new_point contents.region stop change), refl, refl)
point_added contents stop change false e = absurd (true≢false (sym e))

point_new : (stop : Text) (change : ℕ) (contents : Contents) (line : Line) → DeclaresPoint stop change line → HasPoint (grown contents line).points stop change
point_new stop change contents line (name, shared, is) =
    subst (λ (l : Line). HasPoint (grown contents l).points stop change) (sym is) (point_added contents stop change (is_exchange stop) shared)

-- ---- each shared place has its point

abbrev IsShared : Contents → Type 0
IsShared contents = (stop : Text) → is_exchange stop ≡ true → has_place contents stop ≡ true → (point : Point) × Among point contents.points × (point.stop ≡ stop)

stop_in : (contents : Contents) (at : Text) (time : ℕ) (b : Bool) (stop : Text) → (point : Point) × Among point contents.points × (point.stop ≡ stop)
    → (point : Point) × Among point (cond b (with_point contents.points (new_point contents.region at time)) contents.points) × (point.stop ≡ stop)
stop_in contents at time false stop h = h
stop_in contents at time true stop h = (h.0, among_insert h.0 contents.points _ (new_point contents.region at time) h.1, h.2)

stop_added : (contents : Contents) (at : Text) (time : ℕ) (b : Bool) → b ≡ true
    → (point : Point) × Among point (cond b (with_point contents.points (new_point contents.region at time)) contents.points) × (point.stop ≡ at)
stop_added contents at time true e = (new_point contents.region at time, among_inserted contents.points _ (new_point contents.region at time), refl)
stop_added contents at time false e = absurd (true≢false (sym e))

place_shared : (contents : Contents) (at : Text) (time : ℕ) (name : Text) → IsShared contents → IsShared (grown contents (lines.Place at time name))
unfolding has_place
place_shared contents at time name h stop shared has =
    let found = among_list_any_back (λ (place : Place). same stop place.stop) (contents.places ++ record { stop = at; change = time; name = name } ∷ []) has in
    elim (among_append found.item contents.places (record { stop = at; change = time; name = name } ∷ []) found.among) [
      | inl old ↦ stop_in contents at time (is_exchange at) stop (h stop shared (among_list_any (λ (place : Place). same stop place.stop) found.item contents.places old found.holds))
      | inr (inl new) ↦
          let is : stop ≡ at = same_is stop found.item.stop found.holds ∙ ap (λ (p : Place). p.stop) new in
          subst (λ (s : Text). (point : Point) × Among point (grown contents (lines.Place at time name)).points × (point.stop ≡ s)) (sym is)
          (stop_added contents at time (is_exchange at) (ap is_exchange (sym is) ∙ shared))
      | inr (inr none) ↦ absurd none
    ]

neighbour_shared : (contents : Contents) (at : Text) (neighbour : Neighbour) → IsShared contents → IsShared (grown contents (lines.Neighbour at neighbour))
unfolding has_place
neighbour_shared contents at neighbour h stop shared has =
    let point = h stop shared has in
    elim (stays_with point.0 contents.points at neighbour point.1) [
      | inl old ↦ (point.0, old, point.2)
      | inr new ↦ (point_with point.0 neighbour, new, point.2)
    ]

shared_kept : (contents : Contents) (line : Line) → IsShared contents → IsShared (grown contents line)
unfolding has_place
shared_kept contents lines.Header h = h
shared_kept contents (lines.Region code) h = h
shared_kept contents (lines.Zone zone) h = h
shared_kept contents (lines.Place at time name) h = place_shared contents at time name h
shared_kept contents (lines.Neighbour at neighbour) h = neighbour_shared contents at neighbour h
shared_kept contents (lines.Service id dates) h = h
shared_kept contents (lines.Journey id service line) h = h
shared_kept contents (lines.Call call) h = h

none_shared : IsShared no_lines.contents
unfolding has_place
none_shared stop shared has = absurd (true≢false (sym has))

-- ---- neighbours

neighbour_back : (stop : Text) (neighbour : Neighbour) (contents : Contents) (at : Text) (time : ℕ) (b : Bool)
    → HasNeighbour (cond b (with_point contents.points (new_point contents.region at time)) contents.points) stop neighbour → HasNeighbour contents.points stop neighbour
neighbour_back stop neighbour contents at time false h = h
neighbour_back stop neighbour contents at time true (point, among, is, has) =
    elim (among_insert_or point contents.points _ (new_point contents.region at time) among) [
      | inl old ↦ (point, old, is, has)
      | inr new ↦ absurd (subst (λ (p : Point). Among neighbour p.neighbours) new has)
    ]

neighbour_told : (stop : Text) (neighbour : Neighbour) (contents : Contents) (line : Line) → HasNeighbour (grown contents line).points stop neighbour
    → HasNeighbour contents.points stop neighbour ⊎ (line ≡ lines.Neighbour stop neighbour)
neighbour_told stop neighbour contents lines.Header h = inl h
neighbour_told stop neighbour contents (lines.Region code) h = inl h
neighbour_told stop neighbour contents (lines.Zone zone) h = inl h
neighbour_told stop neighbour contents (lines.Place at time name) h = inl (neighbour_back stop neighbour contents at time (is_exchange at) h)
neighbour_told stop neighbour contents (lines.Neighbour at other) (point, among, is, has) = elim (among_with point contents.points at other among) [
  | inl old ↦ inl (point, old, is, has)
  | inr new ↦
      let is_at : at ≡ stop = sym new.2 ∙ (ap (λ (p : Point). p.stop) (sym new.3) ∙ is) in
      elim (among_insert_or neighbour new.0.neighbours _ other (subst (λ (p : Point). Among neighbour p.neighbours) new.3 has)) [
        | inl before ↦ inl (new.0, new.1, new.2 ∙ is_at, before)
        | inr e ↦ inr (ap (λ (s : Text). lines.Neighbour s other) is_at ∙ ap (λ (n : Neighbour). lines.Neighbour stop n) (sym e))
      ]
]
neighbour_told stop neighbour contents (lines.Service id dates) h = inl h
neighbour_told stop neighbour contents (lines.Journey id service line) h = inl h
neighbour_told stop neighbour contents (lines.Call call) h = inl h

neighbour_in : (stop : Text) (neighbour : Neighbour) (contents : Contents) (at : Text) (time : ℕ) (b : Bool) → HasNeighbour contents.points stop neighbour
    → HasNeighbour (cond b (with_point contents.points (new_point contents.region at time)) contents.points) stop neighbour
neighbour_in stop neighbour contents at time false h = h
neighbour_in stop neighbour contents at time true (point, among, is, has) = (point, among_insert point contents.points _ (new_point contents.region at time) among, is, has)

neighbour_kept : (stop : Text) (neighbour : Neighbour) (contents : Contents) (line : Line) → HasNeighbour contents.points stop neighbour → HasNeighbour (grown contents line).points stop neighbour
neighbour_kept stop neighbour contents lines.Header h = h
neighbour_kept stop neighbour contents (lines.Region code) h = h
neighbour_kept stop neighbour contents (lines.Zone zone) h = h
neighbour_kept stop neighbour contents (lines.Place at time name) h = neighbour_in stop neighbour contents at time (is_exchange at) h
neighbour_kept stop neighbour contents (lines.Neighbour at other) (point, among, is, has) = elim (stays_with point contents.points at other among) [
  | inl old ↦ (point, old, is, has)
  | inr new ↦ (point_with point other, new, is, among_insert neighbour point.neighbours _ other has)
]
neighbour_kept stop neighbour contents (lines.Service id dates) h = h
neighbour_kept stop neighbour contents (lines.Journey id service line) h = h
neighbour_kept stop neighbour contents (lines.Call call) h = h

both_hold : (a b : Bool) → not (a && b) ≡ false → (a ≡ true) × (b ≡ true)
both_hold true true h = (refl, refl)
both_hold true false h = absurd (true≢false h)
both_hold false b h = absurd (true≢false h)

neighbour_line : (stop : Text) (neighbour : Neighbour) (contents : Contents) → IsShared contents → lacks_stop contents (lines.Neighbour stop neighbour) ≡ false
    → HasNeighbour (points_with contents.points stop neighbour) stop neighbour
unfolding lacks_stop
neighbour_line stop neighbour contents shared has =
    let both = both_hold (is_exchange stop) (has_place contents stop) has in
    gets_with contents.points stop neighbour (shared stop both.0 both.1)

neighbour_new : (stop : Text) (neighbour : Neighbour) (contents : Contents) (line : Line) → IsShared contents → lacks_stop contents line ≡ false → line ≡ lines.Neighbour stop neighbour
    → HasNeighbour (grown contents line).points stop neighbour
neighbour_new stop neighbour contents line shared has is =
    subst (λ (l : Line). HasNeighbour (grown contents l).points stop neighbour) (sym is)
    (neighbour_line stop neighbour contents shared (subst (λ (l : Line). lacks_stop contents l ≡ false) is has))

-- ---- the laws

said_points : (texts : List Text) → ArePointsSaid (say texts) (above_of texts).contents.points
said_points texts = subst (λ (contents : Contents). ArePointsSaid (say texts) contents.points) (sym (contents_said texts)) (record {
  point = λ stop change. (
    λ h. elim (told (λ contents. HasPoint contents.points stop change) (DeclaresPoint stop change) (point_told stop change) (say texts) no_lines.contents h) [
      | inl none ↦ absurd none.1
      | inr is ↦ (is.2.0, is.2.1, subst (λ (line : Line). Among line (say texts)) is.2.2 is.1)
    ],
    λ given. declared (λ contents. HasPoint contents.points stop change) IsShared (DeclaresPoint stop change) (point_kept stop change) shared_kept
        (λ contents line shared has d. point_new stop change contents line d) (say texts) no_lines.contents none_shared (stops_said texts)
        (lines.Place stop change given.0, given.2, (given.0, given.1, refl)),
  );
  neighbour = λ stop neighbour. (
    λ h. elim (told (λ contents. HasNeighbour contents.points stop neighbour) (λ line. line ≡ lines.Neighbour stop neighbour) (neighbour_told stop neighbour) (say texts) no_lines.contents h) [
      | inl none ↦ absurd none.1
      | inr is ↦ subst (λ (line : Line). Among line (say texts)) is.2 is.1
    ],
    λ given. declared (λ contents. HasNeighbour contents.points stop neighbour) IsShared (λ line. line ≡ lines.Neighbour stop neighbour) (neighbour_kept stop neighbour) shared_kept
        (neighbour_new stop neighbour) (say texts) no_lines.contents none_shared (stops_said texts)
        (lines.Neighbour stop neighbour, given, refl),
  );
})

pub points_are_as_said : PointsAreAsSaid
points_are_as_said bytes table h = subst (λ (t : Timetable). ArePointsSaid (say (lines_of bytes)) t.points) (sym h.makes) (said_points (lines_of bytes))

-- what is found at a stop
neighbours_of : Option Point → List Neighbour
neighbours_of found = unwrap_or (option_map (λ (point : Point). point.neighbours) found) []

at_found : (points : List Point) (stop : Text) (neighbour : Neighbour) (found : Option Point) → find (λ (p : Point). same stop p.stop) points ≡ found
    → Among neighbour (unwrap_or (option_map (λ (point : Point). point.neighbours) found) []) → HasNeighbour points stop neighbour
at_found points stop neighbour None e h = absurd h
at_found points stop neighbour (Some point) e h = let is = found_among points stop point e in (point, is.0, is.1, h)

pub neighbours_are_as_said : NeighboursAreAsSaid
unfolding has_neighbour neighbours_at point_at
neighbours_are_as_said texts stop code = (
  λ h.
      let points = (above_of texts).contents.points in
      let found = among_list_any_back (λ (neighbour : Neighbour). same code neighbour.code) _ h in
      let has = at_found points stop found.item (find (λ (p : Point). same stop p.stop) points) refl found.among in
      let line = ((said_points texts).neighbour stop found.item).0 has in
      (found.item.change, subst (λ (c : Text). Among (lines.Neighbour stop (record { code = c; change = found.item.change })) (say texts)) (sym (same_is code found.item.code found.holds)) line),
  λ given.
      let points = (above_of texts).contents.points in
      let neighbour : Neighbour = record { code = code; change = given.0 } in
      let has = ((said_points texts).neighbour stop neighbour).1 given.1 in
      let found = finds points stop has.0 (points_of_lines texts).rising has.1 has.2 in
      among_list_any (λ (n : Neighbour). same code n.code) neighbour _
      (subst (λ (o : Option Point). Among neighbour (unwrap_or (option_map (λ (point : Point). point.neighbours) o) [])) (sym found) has.3) (same_itself code),
)
