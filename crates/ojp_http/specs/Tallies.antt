-- The fields of one name, as one pass counts them.
use Rattle.std.specs.Prelude.{◌≡◌, ℕ, ◌+◌, ◌==◌, ◌&&◌, if◌then◌else◌, List, length, map}
use Rattle.httparse.specs.declared.spans.HeaderSpan.{HeaderSpan}
use Rattle.httparse.specs.Spans.{IsWithin, header_bytes, span_bytes}
use Rattle.ojp_http.specs.declared.fields.Named.{Named}
use Rattle.ojp_http.specs.Fields.{is_same, count_named, value_named}

-- so many fields have this name, and the value of the first is there
pub record IsTally (name bytes : List ℕ) (headers : List HeaderSpan) (named : Named) : Type 0 where
  pub counted : named.count ≡ count_named name (map (header_bytes bytes) headers)
  pub value : span_bytes bytes named.first ≡ value_named name (map (header_bytes bytes) headers)
  pub within : IsWithin (length bytes) named.first

-- one field more is counted if it has the name, and its value kept if it is the first
pub record Counts (name bytes : List ℕ) (header : HeaderSpan) (before now : Named) : Type 0 where
  pub count : now.count ≡ (if is_same (span_bytes bytes header.name) name then before.count + 1 else before.count)
  pub first : now.first ≡ (if is_same (span_bytes bytes header.name) name && (before.count == 0) then header.value else before.first)
