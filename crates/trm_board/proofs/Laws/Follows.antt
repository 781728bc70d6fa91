-- The turns of a board follow one another, and a list of turns can be cut at any clock.
-- Idea: clock by clock; the reply is that of the device that the answer byte shows read, since the byte does not depend on the input word.
--   board-follows    cut_at    Cut
use Prim.Native.Nat.{ℕ, ◌+◌, ◌*◌, ◌%◌}
use mathlib.Core.Path.{◌≡◌, refl, sym, ap, subst, ◌∙◌}
use mathlib.Core.List.{List, [], ◌∷◌, ◌++◌}
use lib.ListN.{length}
use borrow.Author.Tests.{eq-eqb}
use native.Mathlib.Omega.{arith}
use Rattle.trm_clock_device.specs.Device.{device_read}
use Rattle.trm_serial.specs.Timing.{Timing}
use Rattle.trm_board.specs.Core.{Core, Obeys, read_by, asked}
use Rattle.trm_board.specs.Board.{Devices, Inputs, Board, reply, line_byte, line_in, devices_clock, fed, core_clock, board_clock}
use Rattle.trm_board.specs.Turns.{Turn, turns, board_end}
use Rattle.trm_board.specs.Course.{Shows, devices_after, Follows}

read-odd : (d : ℕ) → device_read (read_by d) ≡ d
unfolding device_read
read-odd d = rw (eq-eqb ((d * 4 + 1) % 2) 1 (omega arith)) (omega arith)

module _ (T : Timing) {C : Type 0} (K : Core C) (obeys : Obeys K) where
  abbrev turn : Board C → Inputs → Turn
  turn b i = record { before = b.devices; input = i; shown = (board_clock T K b i).out }

  which : (b : Board C) (i : Inputs) (d : ℕ) → (core_clock T K b i).out.byte ≡ read_by d
      → asked K b.core (line_byte b.devices.tick i) ≡ d
  unfolding asked fed
  which b i d h = ap device_read (obeys.same b.core (line_byte b.devices.tick i) 0 _ ∙ h) ∙ read-odd d

  shows : (b : Board C) (i : Inputs) (n : ℕ) → K.count b.core ≡ n → Shows T n (turn b i)
  unfolding board_clock fed
  shows b i n e = record {
    sends = refl;
    replies = λ d h.
        obeys.reads b.core (line_byte b.devices.tick i) _ d h
        ∙ ap (reply T b.devices.serial (K.count b.core) i.switches) (which b i d h)
        ∙ ap (λ k. reply T b.devices.serial k i.switches d) e;
    ends = obeys.ends b.core (line_byte b.devices.tick i) _;
  }

  count_next : (b : Board C) (i : Inputs) (n : ℕ) → K.count b.core ≡ n → K.count (board_clock T K b i).state.core ≡ n + 1
  unfolding board_clock fed
  count_next b i n e = obeys.counts b.core _ _ ∙ ap (λ k. k + 1) e

  devices_next : (b : Board C) (i : Inputs) (n : ℕ) → K.count b.core ≡ n
      → (board_clock T K b i).state.devices ≡ devices_after T n (turn b i)
  unfolding board_clock
  devices_next b i n e = ap (λ k. devices_clock T (line_in T b.devices.serial i) k (core_clock T K b i).out.byte
      (core_clock T K b i).out.word b.devices) (count_next b i n e)

  pub board-follows : (b : Board C) (is : List Inputs) (n : ℕ) → K.count b.core ≡ n
      → Follows T n b.devices (turns T K b is) (board_end T K b is).devices
  unfolding Follows turns board_end
  board-follows b [] n e = refl
  board-follows b (i ∷ is) n e = (
    refl,
    shows b i n e,
    subst (λ d. Follows T (n + 1) d (turns T K (board_clock T K b i).state is) (board_end T K (board_clock T K b i).state is).devices)
        (devices_next b i n e) (board-follows (board_clock T K b i).state is (n + 1) (count_next b i n e)),
  )

-- a list of turns cut before a clock
pub record Cut (T : Timing) (n : ℕ) (d : Devices) (before : List Turn) (t : Turn) (after : List Turn) (e : Devices) : Type 0 where
  pub first : Follows T n d before t.before
  pub here : Shows T (n + length before) t
  pub rest : Follows T (n + length before + 1) (devices_after T (n + length before) t) after e

pub cut_at : (T : Timing) (n : ℕ) (d : Devices) (before : List Turn) (t : Turn) (after : List Turn) (e : Devices)
    → Follows T n d (before ++ (t ∷ after)) e → Cut T n d before t after e
unfolding Follows
cut_at T n d [] t after e h = record {
  first = sym h.0;
  here = subst (λ k. Shows T k t) (omega arith) h.1;
  rest = subst (λ k. Follows T (k + 1) (devices_after T k t) after e) (omega arith) h.2;
}
cut_at T n d (u ∷ before) t after e h = let c = cut_at T (n + 1) (devices_after T n u) before t after e h.2 in record {
  first = (h.0, h.1, c.first);
  here = subst (λ k. Shows T k t) (omega arith) c.here;
  rest = subst (λ k. Follows T (k + 1) (devices_after T k t) after e) (omega arith) c.rest;
}
