-- The clock history of a machine: one clock for each pair of line byte and input word.
-- Paper: "A run carries out one clock per line byte and reports the clocks used and instructions finished."
--   clocks step x is   the clock history from the state x       end_of x ts   its last state       outs_of ts   its answers
--   finished_in as      how many words these clocks executed
use Rattle.std.specs.Prelude.{ℕ, ◌+◌, List, [], ◌∷◌}
use Rattle.trm_reference.specs.Access.{Answer}

-- "Each clock brings a line byte .. and an input word"
pub record Pins : Type 0 where
  pub line_byte : ℕ
  pub input : ℕ

-- the line bytes with their input words
unfoldable pub pins_of : List ℕ → List ℕ → List Pins
pins_of [] is = []
pins_of (l ∷ ls) [] = []
pins_of (l ∷ ls) (i ∷ is) = record { line_byte = l; input = i } ∷ pins_of ls is

-- the state after one clock, and its answer
pub record After (S O : Type 0) : Type 0 where
  pub state : S
  pub out : O

-- one clock for each input
unfoldable pub clocks : {S I O : Type 0} → (S → I → After S O) → S → List I → List (After S O)
clocks step x [] = []
clocks step x (i ∷ is) = step x i ∷ clocks step (step x i).state is

unfoldable pub end_of : {S O : Type 0} → S → List (After S O) → S
end_of x [] = x
end_of x (t ∷ ts) = end_of t.state ts

unfoldable pub outs_of : {S O : Type 0} → List (After S O) → List O
outs_of [] = []
outs_of (t ∷ ts) = t.out ∷ outs_of ts

unfoldable pub finished_in : List Answer → ℕ
finished_in [] = 0
finished_in (a ∷ as') = a.done + finished_in as'
