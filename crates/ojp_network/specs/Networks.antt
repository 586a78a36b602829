-- A network of twelve regions and 200 asks, drawn from a number.
use Rattle.std.specs.Prelude.{ℕ, ◌+◌, ◌*◌, ◌%◌, ◌==◌, ◌&&◌, cond, List}
use Rattle.ojp_values.specs.Texts.{Text}
use Rattle.ojp_network.specs.Draws.{below, draw, state_after}
use Rattle.ojp_network.specs.declared.shapes.LoadAsk.{LoadAsk}
use Rattle.ojp_network.specs.Regions.{file, own_stop}

-- the files of the regions 1 to 12, which take 1,954 draws each
abbrev pub file_of : ℕ → ℕ → Text
file_of number k = file (state_after number (1954 * k)) (k + 1)

abbrev pub files : ℕ → List Text
files number = below (file_of number) 12

-- the target's stop in its region, counted from 0: one that is the origin is moved to the next stop, and from the last to the first
abbrev pub apart : ℕ → ℕ → ℕ → ℕ → ℕ
apart from board to given = cond (from == to && board == given) ((given + 1) % 30) given

abbrev pub target_at : ℕ → ℕ
target_at z = apart (draw z 0 12) (draw z 1 30) (draw z 2 12) (draw z 3 30)

-- a trip from an own stop of a region to one of a region, on 2024-05-06 from a minute on; and the order of the replies
unfoldable pub load_ask : ℕ → LoadAsk
load_ask z = record {
  ask = record {
    origin = own_stop (draw z 0 12 + 1) (draw z 1 30 + 1);
    start = 1_714_953_600 + 60 * draw z 4 1440;
    target = own_stop (draw z 2 12 + 1) (target_at z + 1);
  };
  order = draw z 5 11;
}

-- 200 asks, which take six draws each
abbrev pub asks_from : ℕ → List LoadAsk
asks_from z = below (λ k. load_ask (state_after z (6 * k))) 200

-- they are drawn behind the files
abbrev pub asks : ℕ → List LoadAsk
asks number = asks_from (state_after number 23_448)
