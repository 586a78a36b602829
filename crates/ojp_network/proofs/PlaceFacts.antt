-- Texts of equal values.
use Rattle.std.proofs.Common.{◌≡◌, ℕ}
use Rattle.std.specs.Prelude.{Option}
use Rattle.ojp_values.specs.Texts.{Text}
use Rattle.ojp_lines.specs.Lines.{call_text, neighbour_text, place_text}

pub place_text_is : (word stop at : Text) (change time : ℕ) (name is : Text) → stop ≡ at → change ≡ time → name ≡ is
    → place_text word stop change name ≡ place_text word at time is
place_text_is word stop at change time name is e f g = cc

pub neighbour_text_is : (stop at code other : Text) (change time : ℕ) → stop ≡ at → code ≡ other → change ≡ time
    → neighbour_text stop code change ≡ neighbour_text at other time
neighbour_text_is stop at code other change time e f g = cc

pub call_text_is : (stop at : Text) (arrives comes departs leaves : Option ℕ) → stop ≡ at → arrives ≡ comes → departs ≡ leaves
    → call_text stop arrives departs ≡ call_text at comes leaves
call_text_is stop at arrives comes departs leaves e f g = cc
