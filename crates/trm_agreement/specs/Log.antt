-- The log of a machine over a list of calls: what is seen at the start, after every clock and after every call, and what each returns.
-- Paper: "Demand 3 is one statement on the whole list, not one on each call". For any machine, inputs, answers and calls.
--   Engine                      a machine: one clock, what is seen of a state, the refusal number of a call
--   log_of feed answer E x cs    the log        returns_in   what its calls returned
--   answers_in, clocked_in        the answers of a log's clocks; the clocks alone        last_seen   what is seen last
--   fed_of, state_of              the inputs of the calls that were not refused; the state after all calls
use Rattle.std.specs.Prelude.{ℕ, cond, List, [], ◌∷◌, ◌++◌, eqb}
use Rattle.trm_reference.specs.Trace.{After, clocks, end_of, outs_of}

-- states S, inputs I and outputs O of a clock, what is seen W, calls C; the number is 0 if the call is not refused
pub record Engine (S I O W C : Type 0) : Type 0 where
  pub step : S → I → After S O
  pub seen : S → W
  pub code : S → C → ℕ

-- an entry of the log: the start; a clock, with its input, what is seen after it and its answer; a call, with what is seen after it and
-- what it returns
pub data Entry (I O W A : Type 0) : Type 0 where
  started : W → Entry I O W A
  clocked : I → W → O → Entry I O W A
  ended : W → A → Entry I O W A

-- feed: the inputs of a call, one per clock; answer: what a call returns, given its number and the outputs of its clocks
module _ {S I O W C A : Type 0} (feed : C → List I) (answer : ℕ → C → List O → A) (E : Engine S I O W C) where
  -- "A refused call moves nothing": no clock
  unfoldable pub clocks_of : S → C → List (After S O)
  clocks_of x c = cond (eqb (E.code x c) 0) (clocks E.step x (feed c)) []

  -- the clocks with their inputs
  unfoldable pub entries : List (After S O) → List I → List (Entry I O W A)
  entries [] is = []
  entries (t ∷ ts) [] = []
  entries (t ∷ ts) (i ∷ is) = clocked i (E.seen t.state) t.out ∷ entries ts is

  unfoldable pub calls : S → List C → List (Entry I O W A)
  calls x [] = []
  calls x (c ∷ cs) =
      entries (clocks_of x c) (feed c)
      ++ ended (E.seen (end_of x (clocks_of x c))) (answer (E.code x c) c (outs_of (clocks_of x c)))
      ∷ calls (end_of x (clocks_of x c)) cs

  unfoldable pub log_of : S → List C → List (Entry I O W A)
  log_of x cs = started (E.seen x) ∷ calls x cs

  -- the inputs that the machine gets: those of the calls not refused
  unfoldable pub fed_of : S → List C → List I
  fed_of x [] = []
  fed_of x (c ∷ cs) = cond (eqb (E.code x c) 0) (feed c) [] ++ fed_of (end_of x (clocks_of x c)) cs

  unfoldable pub state_of : S → List C → S
  state_of x [] = x
  state_of x (c ∷ cs) = state_of (end_of x (clocks_of x c)) cs

-- the answers of the clocks in a log; what its calls returned
unfoldable pub answers_in : {I O W A : Type 0} → List (Entry I O W A) → List O
answers_in [] = []
answers_in (started w ∷ es) = answers_in es
answers_in (clocked i w o ∷ es) = o ∷ answers_in es
answers_in (ended w a ∷ es) = answers_in es

unfoldable pub returns_in : {I O W A : Type 0} → List (Entry I O W A) → List A
returns_in [] = []
returns_in (started w ∷ es) = returns_in es
returns_in (clocked i w o ∷ es) = returns_in es
returns_in (ended w a ∷ es) = a ∷ returns_in es

-- its clocks alone
unfoldable pub clocked_in : {I O W A : Type 0} → List (Entry I O W A) → List (Entry I O W A)
clocked_in [] = []
clocked_in (started w ∷ es) = clocked_in es
clocked_in (clocked i w o ∷ es) = clocked i w o ∷ clocked_in es
clocked_in (ended w a ∷ es) = clocked_in es

-- what is seen last, w in a log without entries
unfoldable pub last_seen : {I O W A : Type 0} → W → List (Entry I O W A) → W
last_seen w [] = w
last_seen w (started v ∷ es) = last_seen v es
last_seen w (clocked i v o ∷ es) = last_seen v es
last_seen w (ended v a ∷ es) = last_seen v es
