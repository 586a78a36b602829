-- The lists that the regions give, and the book that they make.
use Rattle.std.proofs.Common.{◌≡◌, ℕ, suc, true, ◌+◌, ◌<◌, ◌≤◌, List, [], ◌∷◌, ◌++◌, map, take, length, Option, Some, IfSome, unwrap_or, slice_get, get_or, option_map, refl, sym, ◌∙◌, ap, subst, arith}
use Rattle.std.proofs.lemmas.List.{length-map, map-append, take_all}
use Rattle.std.proofs.lemmas.Option.{slice_get-map, slice_get-get_or, get_or_from_slice_get}
use Rattle.std.proofs.Math.Seq.{take-suc}
use Rattle.ojp_outside.specs.Causes.{Rose}
use Rattle.ojp_values.specs.Lists.{Among}
use Rattle.ojp_values.specs.Texts.{Text}
use Rattle.ojp_values.specs.declared.trips.Point.{Point}
use Rattle.ojp_values.specs.declared.replies.PointsReply.{PointsReply}
use Rattle.ojp_values.specs.declared.replies.PointsReply.TheVariants as points_replies
use Rattle.ojp_values.specs.declared.replies.Delivery.{Delivery}
use Rattle.ojp_values.specs.declared.replies.Delivery.TheVariants as deliveries
use Rattle.ojp_values.specs.declared.documents.Doc.TheVariants as docs
use Rattle.ojp_values.proofs.ListFacts.{Member, among_map, among_map_back}
use Rattle.ojp_grammar.specs.Documents.{IsWell}
use Rattle.ojp_grammar.specs.Answering.{SpellsDelivery}
use Rattle.ojp_timetable.specs.Tables.{Timetable}
use Rattle.ojp_timetable.specs.Journeys.{AreTables}
use Rattle.ojp_timetable.specs.Points.{AreWellPoints}
use Rattle.ojp_timetable.proofs.ReadFacts.{at_among, read_once}
use Rattle.ojp_exchange.specs.declared.region_points.RegionPoints.{RegionPoints}
use Rattle.ojp_exchange.specs.Book.{Book, HasCode, IsBookOf, points_of}
use Rattle.ojp_exchange.specs.Kept.{IsWellBook}
use Rattle.ojp_exchange.specs.Joins.{IsJoined}
use Rattle.ojp_links.specs.declared.expect.Expect.{Expect}
use Rattle.ojp_links.specs.declared.expect.Expect.TheVariants as expects
use Rattle.ojp_links.specs.Fits.{Fits}
use Rattle.ojp_links.specs.Replies.{FitsExpected, ask_of}
use Rattle.ojp_timetable.specs.Answers.{RegionAnswers}
use Rattle.ojp_links.specs.Seen.{View, Fixed, AreServers, IsSound, NoneLive, TellsTables, code_at, codes_of, region_of_table, code_of_station, code_in}
use Rattle.ojp_links.specs.Calls.{Keeps}
use Rattle.ojp_subrequests.specs.Views.{SubView}
use Rattle.ojp_subrequests.specs.Subrequests.{IsSafe, MakesAsk}
use Rattle.ojp_turns.proofs.PollFacts.{Numbered, code_of_numbered, numbered}
use Rattle.ojp_turns.proofs.RoundFacts.{rose_from, tells_on}
use Rattle.ojp_gateway.specs.Learning.{AreHeard, AreLists, FailsFirst, IsAlone, IsLearned, IsListOf, IsListing, IsReplied, RejectsNoneTold, all_points_ask, code_of_list}
use Rattle.ojp_gateway.proofs.SeekFacts.{each_joined}
use Rattle.ojp_gateway.proofs.WellFacts.{well_points}

-- ---- one region

listing_points : (code : Text) (reply : PointsReply) → Fits code all_points_ask (deliveries.Points reply) → IsListing (deliveries.Points reply)
listing_points code (points_replies.Points points) fits = (points, refl)
listing_points code (points_replies.Fault fault) fits = absurd fits

is_listing : (code : Text) (delivery : Delivery) → Fits code all_points_ask delivery → IsListing delivery
is_listing code (deliveries.Trip reply) fits = absurd fits
is_listing code (deliveries.Multi reply) fits = absurd fits
is_listing code (deliveries.Events reply) fits = absurd fits
is_listing code (deliveries.Points reply) fits = listing_points code reply fits

-- the subrequest that asks the region for all its points
abbrev pub AsksAll : View → ℕ → SubView → Type 0
AsksAll v region s = (s.region ≡ region) × (s.expect ≡ expects.Region (code_at v region) all_points_ask)

pub asks_all : (old mid : View) (region : ℕ) (s : SubView) → MakesAsk old mid region all_points_ask true s → AsksAll old region s
asks_all old mid region s made = (made.of_region, made.expects)

pub alone_begins : (old mid : View) (region : ℕ) (s : SubView) → NoneLive old → MakesAsk old mid region all_points_ask true s → IsAlone s mid
alone_begins old mid region s none made = record { held = made.held; only = λ key apart. made.begins.others key apart ∙ none key }

pub replied_listing : (old mid : View) (region : ℕ) (s : SubView) (delivery : Delivery) → AsksAll old region s → IsReplied mid s delivery → IsListing delivery
replied_listing old mid region s delivery asks replied = is_listing (code_at old region) delivery (subst (λ (e : Expect). FitsExpected e delivery) asks.1 replied.fits)

pub list_of : (old mid : View) (region : ℕ) (s : SubView) (delivery : Delivery) (points : List Point) (list : RegionPoints) → Keeps old mid → AsksAll old region s → IsReplied mid s delivery
    → delivery ≡ deliveries.Points (points_replies.Points points) → list.code ≡ code_at old region → list.points ≡ points → IsListOf old region list
list_of old mid region s delivery points list keeps asks replied is code same =
    let fits : Fits (code_at old region) all_points_ask (deliveries.Points (points_replies.Points points)) =
    subst (Fits (code_at old region) all_points_ask) is (subst (λ (e : Expect). FitsExpected e delivery) asks.1 replied.fits) in
    let spelled : SpellsDelivery delivery replied.reply.0 = replied.reply.2 in
    let well : IsWell (docs.Delivery (deliveries.Points (points_replies.Points points))) = subst (λ (d : Delivery). IsWell (docs.Delivery d)) is spelled.wanted.1 in
    record {
      code = code;
      well = subst (λ (c : Text). AreWellPoints c list.points) (sym code)
          (subst (AreWellPoints (code_at old region)) (sym same) (record { few = fits.0; each = fits.1; bounded = well_points points well; rising = fits.2 }));
      told = λ tables tells table at.
          let at_s : slice_get tables s.region ≡ Some table = ap (slice_get tables) asks.0 ∙ at in
          let answers = subst (λ (e : Expect). RegionAnswers table (ask_of e) delivery) asks.1 (replied.answers tables (tells_on old mid tables keeps tells).servers table at_s) in
          let both : deliveries.Points (points_replies.Points points) ≡ deliveries.Points (points_replies.Points table.points) = sym is ∙ answers in
          same ∙ same_points points table.points both;
    }
  where
    same_points : (a b : List Point) → deliveries.Points (points_replies.Points a) ≡ deliveries.Points (points_replies.Points b) → a ≡ b
    same_points a b e = cc

-- such an ask is safe where timetables are told
pub safe_all : (old mid : View) (region : ℕ) (s : SubView) (tables : List Timetable) → Keeps old mid → AsksAll old region s → region < length old.fixed.stations → TellsTables old tables → IsSafe mid s s.expect
safe_all old mid region s tables keeps asks within tells =
    let long : length tables ≡ length old.fixed.stations = sym (length-map tables region_of_table) ∙ (ap length tells.own ∙ length-map old.fixed.stations code_of_station) in
    let it : Numbered tables region = numbered tables region (omega (arith, long, within)) in
    subst (IsSafe mid s) (sym asks.1) (tables, tells_on old mid tables keeps tells, (it.table, ap (slice_get tables) asks.0 ∙ it.at, tt))

pub rejects_heard : (old mid new : View) (region : ℕ) (s : SubView) → Keeps old mid → AsksAll old region s → region < length old.fixed.stations → mid.rejections ≡ old.rejections → (IsSafe mid s s.expect → new.rejections ≡ mid.rejections) → RejectsNoneTold old new
rejects_heard old mid new region s keeps asks within same none tables tells at =
    ap (λ (f : ℕ → ℕ). f at) (none (safe_all old mid region s tables keeps asks within tells) ∙ same)

pub rejects_same : (old new : View) → new.rejections ≡ old.rejections → RejectsNoneTold old new
rejects_same old new same tables tells region = ap (λ (f : ℕ → ℕ). f region) same

pub rejects_on : (old mid new : View) → Keeps old mid → RejectsNoneTold old mid → RejectsNoneTold mid new → RejectsNoneTold old new
rejects_on old mid new keeps x y tables tells region = y tables (tells_on old mid tables keeps tells) region ∙ x tables tells region

pub failed_heard : (old mid new : View) (region : ℕ) (s : SubView) → Keeps old mid → AsksAll old region s → Rose (mid.faults s.region) (new.faults s.region) → Rose (old.faults region) (new.faults region)
failed_heard old mid new region s keeps asks rose =
    rose_from (old.faults region) (mid.faults region) (new.faults region) (keeps.faults region) (subst (λ (r : ℕ). Rose (mid.faults r) (new.faults r)) asks.0 rose)

pub fails_first : (old mid new : View) (region : ℕ) (code : Text) (lists : List RegionPoints) → Keeps old mid → region < length old.fixed.stations → code ≡ code_at new region → Keeps mid new → Rose (mid.faults region) (new.faults region)
    → AreLists old region lists → FailsFirst old new code
fails_first old mid new region code lists keeps within is kept rose before =
    record {
      region = region;
      below = within;
      is = ap (λ (f : Fixed). code_in (codes_of f) region) (sym (kept.fixed ∙ keeps.fixed)) ∙ sym is;
      rose = rose_from (old.faults region) (mid.faults region) (new.faults region) (keeps.faults region) rose;
      lists = lists;
      before = before;
    }

-- ---- all lists

pub no_lists : (v : View) → AreLists v 0 []
no_lists v = record { codes = refl; well = tt; told = λ tables tells. refl }

slice_at : {X : Type 0} (xs : List X) (d : X) (n : ℕ) → n < length xs → slice_get xs n ≡ Some (get_or xs n d)
slice_at xs d n within = slice_get-get_or xs n d within

pub lists_more : (v mid : View) (n : ℕ) (lists : List RegionPoints) (list : RegionPoints) (after : List RegionPoints) → Keeps v mid → n < length v.fixed.stations → AreLists v n lists → IsListOf mid n list → after ≡ lists ++ list ∷ [] → AreLists v (n + 1) after
lists_more v mid n lists list after keeps within are it is =
    subst (AreLists v (n + 1)) (sym is) (record {
      codes = map-append code_of_list lists (list ∷ []) ∙ (ap (λ (cs : List Text). cs ++ list.code ∷ []) are.codes ∙ (ap (λ (c : Text). take n codes ++ c ∷ []) code ∙ sym (more_of codes [] n below)));
      well = each_joined (λ (l : RegionPoints). AreWellPoints l.code l.points) lists (list ∷ []) are.well (it.well, tt);
      told = λ tables tells.
          let long : length tables ≡ length v.fixed.stations = sym (length-map tables region_of_table) ∙ (ap length tells.own ∙ length-map v.fixed.stations code_of_station) in
          let in_tables : n < length tables = omega (arith, long, within) in
          let found : Numbered tables n = numbered tables n in_tables in
          let own : found.table.region ≡ code_in codes n = code_of_numbered tables codes n found.table tells.own found.at in
          let same : list.points ≡ found.table.points = it.told tables (tells_on v mid tables keeps tells) found.table found.at in
          let same_code : list.code ≡ found.table.region = code_of_mid ∙ sym own in
          let is_of : list ≡ points_of found.table = λ i. record { code = same_code i; points = same i } in
          let one : get_or tables n found.table ≡ found.table = get_or_from_slice_get tables n found.table found.table found.at in
          ap (λ (ls : List RegionPoints). ls ++ list ∷ []) (are.told tables tells)
          ∙ (ap (λ (l : RegionPoints). map points_of (take n tables) ++ l ∷ []) is_of
          ∙ (sym (map-append points_of (take n tables) (found.table ∷ []))
          ∙ ap (map points_of) (ap (λ (t : Timetable). take n tables ++ t ∷ []) (sym one) ∙ sym (more_of tables found.table n in_tables))));
    })
  where
    codes : List Text
    codes = codes_of v.fixed

    below : n < length codes
    below = omega (arith, within, length-map v.fixed.stations code_of_station)

    code_of_mid : list.code ≡ code_in codes n
    code_of_mid = it.code ∙ ap (λ (f : Fixed). code_in (codes_of f) n) keeps.fixed

    code : list.code ≡ get_or codes n []
    code = code_of_mid ∙ ap (λ (o : Option Text). unwrap_or o []) (slice_at codes [] n below)

    more_of : {X : Type 0} (xs : List X) (d : X) (k : ℕ) → k < length xs → take (k + 1) xs ≡ take k xs ++ get_or xs k d ∷ []
    more_of xs d k within_xs =
        let plus : k + 1 ≡ suc k = omega arith in
        ap (λ (m : ℕ). take m xs) plus ∙ take-suc xs k d within_xs

-- ---- the book

tables_long : (v : View) (tables : List Timetable) → TellsTables v tables → length tables ≡ length v.fixed.stations
tables_long v tables tells = sym (length-map tables region_of_table) ∙ (ap length tells.own ∙ length-map v.fixed.stations code_of_station)

lists_told : (v : View) (n : ℕ) (lists : List RegionPoints) (tables : List Timetable) → length v.fixed.stations ≤ n → AreLists v n lists → TellsTables v tables → lists ≡ map points_of tables
lists_told v n lists tables whole are tells = are.told tables tells ∙ ap (map points_of) (take_all n tables (omega (arith, tables_long v tables tells, whole)))

lists_codes : (v : View) (n : ℕ) (lists : List RegionPoints) → length v.fixed.stations ≤ n → AreLists v n lists → map code_of_list lists ≡ codes_of v.fixed
lists_codes v n lists whole are = are.codes ∙ take_all n (codes_of v.fixed) (omega (arith, length-map v.fixed.stations code_of_station, whole))

are_tables : (v : View) (tables : List Timetable) → IsSound v → TellsTables v tables → AreTables tables
are_tables v tables sound tells =
    let servers : AreServers v.fixed.stations tables = subst (λ (o : Option (List Timetable)). IfSome o (AreServers v.fixed.stations)) tells.servers sound.servers_well in
    record {
      well = servers.well;
      one_each = λ x y of_x of_y e.
          let i = at_among tables x of_x in
          let j = at_among tables y of_y in
          let code_at_x : slice_get (codes_of v.fixed) i.0 ≡ Some x.region = at_code x i.0 i.1 in
          let code_at_y : slice_get (codes_of v.fixed) j.0 ≡ Some x.region = at_code y j.0 j.1 ∙ ap Some (sym e) in
          read_once tables i.0 j.0 x y (sound.codes_distinct i.0 j.0 x.region code_at_x code_at_y) i.1 j.1;
    }
  where
    at_code : (x : Timetable) (k : ℕ) → slice_get tables k ≡ Some x → slice_get (codes_of v.fixed) k ≡ Some x.region
    at_code x k at = ap (λ (cs : List Text). slice_get cs k) (sym tells.own) ∙ (slice_get-map region_of_table tables k ∙ ap (option_map region_of_table) at)

has_code_to : (lists : List RegionPoints) (code : Text) → HasCode lists code → Among code (map code_of_list lists)
has_code_to lists code (list, among, is) = subst (λ (c : Text). Among c (map code_of_list lists)) is (among_map code_of_list list lists among)

has_code_from : (lists : List RegionPoints) (code : Text) → Among code (map code_of_list lists) → HasCode lists code
has_code_from lists code among =
    let m : Member lists (λ (l : RegionPoints). code ≡ code_of_list l) = among_map_back code_of_list code lists among in
    (m.item, m.among, sym m.holds)

pub heard : (v : View) (n : ℕ) (lists : List RegionPoints) → length v.fixed.stations ≤ n → AreLists v n lists → AreHeard v lists
heard v n lists whole are =
    record { codes = lists_codes v n lists whole are; well = are.well; told = λ tables tells. lists_told v n lists tables whole are tells }

pub learned : (v : View) (n : ℕ) (lists : List RegionPoints) (book : Book) → IsSound v → length v.fixed.stations ≤ n → AreLists v n lists → IsJoined lists book → IsWellBook book → IsLearned v book
learned v n lists book sound whole are joined well =
    let codes : map code_of_list lists ≡ codes_of v.fixed = lists_codes v n lists whole are in
    record {
      lists = lists;
      heard = heard v n lists whole are;
      joined = joined;
      regions = λ code. (
        λ among. subst (Among code) codes (has_code_to lists code ((joined.book_of.codes code).0 among)),
        λ among. (joined.book_of.codes code).1 (has_code_from lists code (subst (Among code) (sym codes) among)),
      );
      theirs = λ tables tells. record {
        tables_well = are_tables v tables sound tells;
        book_of = subst (λ (ls : List RegionPoints). IsBookOf ls book) (lists_told v n lists tables whole are tells) joined.book_of;
        book_well = well;
      };
    }
