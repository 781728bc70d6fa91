-- The claims of this crate, proved: the value of the record of `specs/Claims.antt`.
-- Idea: loop-back is two registers one after the other: the line, and the received byte.
use mathlib.Core.Path.{◌≡◌, refl, sym, ap, ◌∙◌}
use mathlib.Core.Bool.{true, false}
use mathlib.Core.List.{List, ◌++◌, append_assoc}
use native.Mathlib.Omega.{arith}
use Rattle.trm_serial.specs.Serial.{serial_reset}
use Rattle.trm_serial.specs.Moments.{fed, joined, joined_end, each, accepted_at, handed_at, received_at, is_set, fate_at, bytes_of, unread}
use Rattle.trm_serial.specs.Moments.{on_line, marks_at, in_time}
use Rattle.trm_serial.specs.Claims.{LoopBackHolds, Claims}
use Rattle.trm_serial.proofs.Laws.Lists.{all-handed}
use Rattle.trm_serial.proofs.Laws.Fates.{fates}
use Rattle.trm_serial.proofs.Laws.Joined.{all-received}
use Rattle.trm_serial.proofs.Laws.Busy.{busy_holds}
use Rattle.trm_serial.proofs.Laws.Cases.{small, paper, echoes}

loop_back : LoopBackHolds
loop_back T fits as' = record { whole = whole; received = all-received T fits as'; fates = by_fates }
  where
    end-unread : List Prim.Native.Nat.ℕ
    end-unread = unread (joined_end T serial_reset as')

    end_line : List Prim.Native.Nat.ℕ
    end_line = on_line T (joined_end T serial_reset as')

    all-gone : each (received_at T) (joined T serial_reset as') ≡ bytes_of (each (fate_at T) (joined T serial_reset as')) ++ end-unread
    all-gone = unfold unread is_set in (fates T fits serial_reset (fed T serial_reset as')).all

    by_fates : each accepted_at (joined T serial_reset as')
        ≡ bytes_of (each (fate_at T) (joined T serial_reset as')) ++ (end-unread ++ end_line)
    by_fates =
        all-received T fits as'
        ∙ ap (λ l. l ++ end_line) all-gone
        ∙ append_assoc (bytes_of (each (fate_at T) (joined T serial_reset as'))) end-unread end_line

    not_set : is_set serial_reset ≡ false
    not_set = unfold is_set in refl

    whole : in_time false (each (marks_at T) (joined T serial_reset as')) ≡ true
        → each accepted_at (joined T serial_reset as') ≡ each handed_at (joined T serial_reset as') ++ (end-unread ++ end_line)
    whole e =
        let f = fates T fits serial_reset (fed T serial_reset as') in
        by_fates
        ∙ ap (λ l. l ++ (end-unread ++ end_line)) (all-handed (each (fate_at T) (joined T serial_reset as')) (sym (rw not_set at
        f.kept) ∙ e) ∙ f.handed)

pub theorems : Claims
theorems =
    record {
      paper_fits = record { first = omega arith; last = omega arith; ticks = omega arith };
      small_cases = small;
      paper_frame = paper;
      loop_back = loop_back;
      echoes = echoes;
      fates = λ T fits s is. fates T fits s is;
      busy_holds = busy_holds;
    }
