-- How a table goes on in its file.
use Rattle.std.proofs.Common.{◌≡◌, ℕ, List, [], ◌∷◌, ◌++◌, length, Option, Some, None, true, false, refl, sym, ◌∙◌, inl, inr}
use Rattle.std.specs.Prelude.{IfSome, option_map}
use Rattle.csv.specs.Reading.{ReadRecord, Reached, default_config, expected_len, is_flexible, names_headers, reader_config, reader_headers, reader_state, reader_trim, source_of, strip_bom, took_first}
use Rattle.csv.specs.declared.reader.Reader.{Reader}
use Rattle.csv.specs.declared.reader.Trim.TheVariants as trim
use Rattle.csv.specs.declared.parser.State.TheVariants as st
use Rattle.csv.proofs.ReadFacts.{rows-end, rows-more}
use Rattle.ojp_values.specs.Texts.{Text}
use Rattle.ojp_feed_lines.specs.Rows.{Record}
use Rattle.ojp_feed_lines.specs.Tables.{HasEnded, HasRead, width_of}

-- the first record says the width, and each further one keeps it
width_kept : (rows : List Record) (row : Record) (before after : Option ℕ)
    → before ≡ width_of rows → IfSome before (λ width. after ≡ Some width) → after ≡ Some (length row) → after ≡ width_of (rows ++ row ∷ [])
width_kept [] row before after w kept first = first
width_kept (head ∷ rows) row before after w kept first = rw w at kept

-- a reader that has read nothing yet
pub read_nothing : {R : Type 0} (rem : R → Option Text) (a : Reader R) (told : Option Text)
    → reader_config a ≡ default_config → reader_trim a ≡ trim.None → is_flexible a ≡ false → names_headers a ≡ false → reader_headers a ≡ None
    → expected_len a ≡ None → reader_state a ≡ st.StartRecord → source_of rem a ≡ option_map strip_bom told
    → IfSome told (λ bytes. HasRead rem a (strip_bom bytes) [])
unfolding Reached
read_nothing rem a None config trims plain named headers width state source = tt
read_nothing rem a (Some bytes) config trims plain named headers width state source = record {
  config = config;
  trim = trims;
  plain = plain;
  ready = inr (inr (named, headers));
  width = width;
  left = strip_bom bytes;
  told = source;
  reached = (sym state, refl);
}

-- a record more
pub read_more : {R : Type 0} (rem : R → Option Text) (a b : Reader R) (bytes : Text) (rows : List Record) (row : Record)
    → HasRead rem a bytes rows → ReadRecord rem a b true row → is_flexible b ≡ is_flexible a → took_first b ≡ true
    → HasRead rem b bytes (rows ++ row ∷ [])
read_more rem a b bytes rows row h r plain first =
    let more = rows-more rem a b row default_config st.StartRecord bytes h.left rows h.config h.told h.reached r in
    record {
      config = r.2 ∙ h.config;
      trim = r.3 ∙ h.trim;
      plain = plain ∙ h.plain;
      ready = inl first;
      width = width_kept rows row (expected_len a) (expected_len b) h.width (r.5 refl h.plain).0 (r.5 refl h.plain).1;
      left = more.0;
      told = more.1;
      reached = more.2;
    }

-- no record more
pub read_all : {R : Type 0} (rem : R → Option Text) (a b : Reader R) (bytes : Text) (rows : List Record) (row : Record)
    → HasRead rem a bytes rows → ReadRecord rem a b false row → HasEnded bytes rows
read_all rem a b bytes rows row h r = (reader_state a, h.left, h.reached, rows-end rem a b row default_config h.left h.config h.told r)
