-- What the fields of a head say of its body.
use Rattle.std.specs.Prelude.{ℕ, ◌-◌, ◌^◌, Bool, not, ◌&&◌, ◌||◌, List, [], ◌∷◌, length, map, if◌then◌else◌, ◌==◌, nat_lt, nat_le, codes, count_by}
use Rattle.std.specs.Char.{to_ascii_lowercase}
use Rattle.std.specs.Str.{bytes_eq}
use Rattle.std.specs.List.{list_all}
use Rattle.std.specs.Char.{is_ascii_digit}
use Rattle.std.specs.Str.Parse.{digits_value}
use Rattle.httparse.specs.Grammar.{RequestHead, ResponseHead, status_code}
use Rattle.httparse.specs.Spans.{name_and_value}
use Rattle.ojp_http.specs.declared.refusal.Refusal.TheVariants as refusals
use Rattle.ojp_http.specs.declared.refusal.Frame.{Frame}
use Rattle.ojp_http.specs.declared.refusal.Frame.TheVariants.{Counted, Chunked, Refused}

-- equal texts, without regard to ASCII case
abbrev pub is_same : List ℕ → List ℕ → Bool
is_same a b = bytes_eq (map to_ascii_lowercase a) (map to_ascii_lowercase b)

-- how many fields have this name
abbrev pub count_named : List ℕ → List (List ℕ × List ℕ) → ℕ
count_named name fields = count_by (λ f. is_same f.0 name) fields

-- the value of the first field of this name, and nothing where there is none
abbrev pub value_named : List ℕ → List (List ℕ × List ℕ) → List ℕ
value_named name [] = []
value_named name (f ∷ fields) = if is_same f.0 name then f.1 else value_named name fields

-- one or more digits
abbrev pub is_number : List ℕ → Bool
is_number text = nat_lt 0 (length text) && list_all is_ascii_digit text

abbrev pub is_conflict : ℕ → ℕ → ℕ → List ℕ → Bool
is_conflict minor lengths codings length_text =
    (nat_lt 0 lengths && nat_lt 0 codings)
    || (nat_lt 1 lengths || ((lengths == 1 && not (is_number length_text)) || (nat_lt 0 codings && minor == 0)))

-- by the numbers of fields Content-Length and Transfer-Encoding and the value of the first of each
abbrev pub frame_by : ℕ → ℕ → ℕ → ℕ → List ℕ → List ℕ → Frame
frame_by most minor lengths codings length_text coding =
    if (lengths == 0 && codings == 0) then Refused refusals.Length
    else (if is_conflict minor lengths codings length_text then Refused refusals.Conflict
    else (if nat_lt 0 codings then (if codings == 1 && is_same coding (codes "chunked") then Chunked else Refused refusals.Coding)
    else (if nat_le (digits_value 10 length_text) most then Counted (digits_value 10 length_text) else Refused refusals.TooLong)))

-- a Content-Length is at most this number
abbrev pub frame_of : ℕ → ℕ → List (List ℕ × List ℕ) → Frame
frame_of most minor fields =
    frame_by most minor (count_named (codes "content-length") fields) (count_named (codes "transfer-encoding") fields)
    (value_named (codes "content-length") fields) (value_named (codes "transfer-encoding") fields)

abbrev pub is_host_wrong : ℕ → ℕ → Bool
is_host_wrong minor hosts = nat_lt 1 hosts || (hosts == 0 && minor == 1)

abbrev pub ask_fields : ℕ → List (List ℕ × List ℕ) → Frame
ask_fields minor fields = if is_host_wrong minor (count_named (codes "host") fields) then Refused refusals.Host else frame_of 1048576 minor fields

abbrev pub ask_by : List ℕ → List ℕ → ℕ → List (List ℕ × List ℕ) → Frame
ask_by method target minor fields =
    if not (bytes_eq method (codes "POST")) then Refused refusals.Method
    else (if not (bytes_eq target (codes "/ojp")) then Refused refusals.Target
    else ask_fields minor fields)

-- the frame of a request's body, or the first refusal of its head
abbrev pub ask_frame : RequestHead → Frame
ask_frame h = ask_by h.method h.target h.minor (map name_and_value h.fields)

abbrev pub reply_by : ℕ → ℕ → List (List ℕ × List ℕ) → Frame
reply_by code minor fields = if code == 200 then frame_of (2 ^ 64 - 1) minor fields else Refused refusals.Head

-- the frame of a reply's body; any refusal will do for another status
abbrev pub reply_frame : ResponseHead → Frame
reply_frame h = reply_by (status_code h) h.minor (map name_and_value h.fields)
