-- Departures that are added one after another, as far as they are wanted.
use Rattle.std.proofs.Common.{◌≡◌, ℕ, zero, suc, ◌+◌, ◌-◌, ◌*◌, ◌<◌, ◌≤◌, ◌⊎◌, cond, List, [], ◌∷◌, ◌++◌, length, get_or, take, min, max, inl, inr, refl, sym, ◌∙◌, ap, subst, append-nil, append_assoc, arith, ltb}
use Rattle.std.proofs.lemmas.Bool.{cond-false, cond-true, lt-ltb, le-ltb}
use Rattle.std.proofs.lemmas.List.{get_or_default, length_push, length-take, take_more, take_all}
use Rattle.std.proofs.lemmas.List.Elements.{All-append, All-nil, All-push, All-weaker}
use Rattle.std.specs.List.{All, Contains, flat_map}
use Rattle.std.proofs.lemmas.List.Concat.{flat_map-append}
use Rattle.ojp_feed_rows.specs.declared.trips.Frequency.{Frequency}
use Rattle.ojp_feed_trips.specs.Starts.{AddsRepeats, IsRepeat, IsRepeatOf, departures_or, repeats, repeats_from}

-- ---- departures of a row

pub adds_nothing : (row : Frequency) (starts : List ℕ) → AddsRepeats row starts starts
adds_nothing row starts = record { more = []; joined = sym (append-nil starts); each = All-nil (IsRepeat row) }

pub adds_next : (row : Frequency) (times next : ℕ) (old starts new : List ℕ) → next ≡ row.start + times * max row.headway 1 → next < row.end → new ≡ starts ++ next ∷ [] → AddsRepeats row old starts → AddsRepeats row old new
adds_next row times next old starts new at before step adds = record {
  more = adds.more ++ next ∷ [];
  joined = step ∙ (ap (λ (xs : List ℕ). xs ++ next ∷ []) adds.joined ∙ append_assoc old adds.more (next ∷ []));
  each = All-push (IsRepeat row) adds.more next adds.each (record { times = times; at = at; before = before });
}

-- those of one row more
pub stem_more : (rows : List Frequency) (i : ℕ) (d : Frequency) (starts new : List ℕ) → i < length rows → All (IsRepeatOf rows) starts → AddsRepeats (get_or rows i d) starts new → All (IsRepeatOf rows) new
stem_more rows i d starts new h before adds =
    let row = get_or rows i d in
    let among : Contains rows row = (i, h, get_or_default rows i row d h) in
    subst (λ (xs : List ℕ). All (IsRepeatOf rows) xs) (sym adds.joined)
    (All-append (IsRepeatOf rows) starts adds.more before (All-weaker (IsRepeat row) (IsRepeatOf rows) (λ s r. record { row = row; among = among; repeats = r }) adds.more adds.each))

-- ---- all departures of a row, in their order

-- none where the next one is not before the close
none_left : (n next close headway : ℕ) → close ≤ next → repeats_from n next close headway ≡ []
none_left zero next close headway h = refl
none_left (suc n) next close headway h = cond-false (ltb next close) (next ∷ repeats_from n (next + headway) close headway) [] (le-ltb next close h)

-- any bound that is as great as the seconds left gives the same
bounds_agree : (n m next close headway : ℕ) → 1 ≤ headway → close ≤ next + n → close ≤ next + m → repeats_from n next close headway ≡ repeats_from m next close headway
bounds_agree zero m next close headway one h k = sym (none_left m next close headway (omega arith))
bounds_agree (suc n) zero next close headway one h k = none_left (suc n) next close headway (omega arith)
bounds_agree (suc n) (suc m) next close headway one h k =
    ap (λ (xs : List ℕ). cond (ltb next close) (next ∷ xs) []) (bounds_agree n m (next + headway) close headway one (omega arith) (omega arith))

-- the next one and those behind it
pub next_left : (next close headway : ℕ) → 1 ≤ headway → next < close → repeats_from (close - next) next close headway ≡ next ∷ repeats_from (close - (next + headway)) (next + headway) close headway
next_left next close headway one h =
    let n = (close - next) - 1 in
    let behind = next + headway in
    let is : close - next ≡ suc n = omega arith in
    ap (λ (m : ℕ). repeats_from m next close headway) is
    ∙ (cond-true (ltb next close) (next ∷ repeats_from n behind close headway) [] (lt-ltb next close h)
    ∙ ap (λ (xs : List ℕ). next ∷ xs) (bounds_agree n (close - behind) behind close headway one (omega arith) (omega arith)))

take_both : (n : ℕ) (xs ys : List ℕ) → take n (xs ++ ys) ≡ take n xs ++ take (n - length xs) ys
take_both zero xs ys = let none : 0 ≡ 0 - length xs = omega arith in ap (λ (k : ℕ). take k ys) none
take_both (suc n) [] ys = let all : suc n ≡ suc n - 0 = omega arith in ap (λ (k : ℕ). take k ys) all
take_both (suc n) (x ∷ xs) ys =
    let less : n - length xs ≡ suc n - suc (length xs) = omega arith in
    ap (λ (zs : List ℕ). x ∷ zs) (take_both n xs ys) ∙ ap (λ (k : ℕ). x ∷ (take n xs ++ take k ys)) less

-- what is left of a row after one departure more; `all` is what is wanted in the end
pub repeat_more : (row : Frequency) (starts new all : List ℕ) (most next behind : ℕ) → length starts ≤ most → next < row.end → new ≡ starts ++ next ∷ []
    → (behind ≡ next + max row.headway 1) ⊎ ((behind ≡ row.end) × (row.end ≤ next + max row.headway 1))
    → starts ++ take ((most + 1) - length starts) (repeats_from (row.end - next) next row.end (max row.headway 1)) ≡ all
    → new ++ take ((most + 1) - length new) (repeats_from (row.end - behind) behind row.end (max row.headway 1)) ≡ all
repeat_more row starts new all most next behind room before step turn is =
    let headway = max row.headway 1 in
    let rest = repeats_from (row.end - (next + headway)) (next + headway) row.end headway in
    let left : repeats_from (row.end - behind) behind row.end headway ≡ rest = elim turn [
      | inl e ↦ ap (λ (m : ℕ). repeats_from (row.end - m) m row.end headway) e
      | inr both ↦ none_left (row.end - behind) behind row.end headway (omega (arith, both.0)) ∙ sym (none_left (row.end - (next + headway)) (next + headway) row.end headway both.1)
    ] in
    let long : length new ≡ length starts + 1 = ap length step ∙ length_push starts next in
    let one : (most + 1) - length starts ≡ suc ((most + 1) - length new) = omega arith in
    let kept : take ((most + 1) - length starts) (repeats_from (row.end - next) next row.end headway) ≡ next ∷ take ((most + 1) - length new) rest =
    ap (take ((most + 1) - length starts)) (next_left next row.end headway (omega arith) before) ∙ ap (λ (k : ℕ). take k (next ∷ rest)) one in
    ap (λ (xs : List ℕ). new ++ take ((most + 1) - length new) xs) left
    ∙ (ap (λ (xs : List ℕ). xs ++ take ((most + 1) - length new) rest) step
    ∙ (append_assoc starts (next ∷ []) (take ((most + 1) - length new) rest)
    ∙ (sym (ap (λ (xs : List ℕ). starts ++ xs) kept) ∙ is)))

pub repeat_begins : (row : Frequency) (starts : List ℕ) (most : ℕ) → starts ++ take ((most + 1) - length starts) (repeats_from (row.end - row.start) row.start row.end (max row.headway 1)) ≡ starts ++ take ((most + 1) - length starts) (repeats row)
unfolding repeats
repeat_begins row starts most = refl

-- the departures of one row more
pub rows_more : (rows : List Frequency) (i : ℕ) (d : Frequency) (starts new : List ℕ) (most : ℕ) → i < length rows → starts ≡ take (most + 1) (flat_map repeats (take i rows))
    → new ≡ starts ++ take ((most + 1) - length starts) (repeats (get_or rows i d)) → new ≡ take (most + 1) (flat_map repeats (take (i + 1) rows))
rows_more rows i d starts new most h before step =
    let row = get_or rows i d in
    let front = flat_map repeats (take i rows) in
    let more : flat_map repeats (take (i + 1) rows) ≡ front ++ repeats row =
    ap (flat_map repeats) (take_more rows i d h) ∙ (flat_map-append repeats (take i rows) (row ∷ []) ∙ ap (λ (xs : List ℕ). front ++ xs) (append-nil (repeats row))) in
    let long : length starts ≡ min (most + 1) (length front) = ap length before ∙ length-take (most + 1) front in
    let room : (most + 1) - length starts ≡ (most + 1) - length front = omega arith in
    step
    ∙ (ap (λ (xs : List ℕ). xs ++ take ((most + 1) - length starts) (repeats row)) before
    ∙ (ap (λ (k : ℕ). take (most + 1) front ++ take k (repeats row)) room
    ∙ (sym (take_both (most + 1) front (repeats row)) ∙ sym (ap (take (most + 1)) more))))

-- and all of a trip that has rows
pub departures_are : (first : ℕ) (rows : List Frequency) (i : ℕ) (starts : List ℕ) (most : ℕ) → 1 ≤ length rows → length rows ≤ i → starts ≡ take (most + 1) (flat_map repeats (take i rows)) → starts ≡ take (most + 1) (departures_or first rows)
departures_are first [] i starts most some all is = absurd (omega (arith, some))
departures_are first (row ∷ rows) i starts most some all is = is ∙ ap (λ (rs : List Frequency). take (most + 1) (flat_map repeats rs)) (take_all i (row ∷ rows) all)
