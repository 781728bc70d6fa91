-- Small timings computed: in each row the level, bit, status and byte of every clock are those of a second reading of request A1
-- (tests/machine/board_tables.py prints the rows). The line is joined to itself in rows 1-4, noisy, misaligned, with short stop bits or low
-- in the others. Each row: period, sample, what each clock is given, and the numbers expected: level + 2 received bit + 4 free + 8 byte, as
-- they stand when each clock begins, and at the end.
use Rattle.std.specs.Prelude.{ℕ, zero, suc, ◌+◌, ◌*◌, Bool, true, false, cond, ◌&&◌, List, [], ◌∷◌, ◌++◌, eqb, ◌≡◌, replicate}
use Rattle.trm_serial.specs.Timing.{Timing, paper_timing}
use Rattle.trm_serial.specs.Serial.{Access, reads, writes, others, Serial, serial_reset, busy, level, serial_clock}
use Rattle.trm_serial.specs.Moments.{Given, joined, joined_end, each, accepted_at, handed_at, fate_at, handed, replaced}
use Rattle.trm_serial.specs.Moments.{on_line, marks_at, in_time}

pub record Row : Type 0 where
  pub period : ℕ
  pub sample : ℕ
  pub given : List Given
  pub expected : List ℕ

abbrev pub on : ℕ → Access → Given
on line a = record { line = line; access = a }

abbrev pub timing : Row → Timing
timing r = record { period = r.period; sample = r.sample; tick = 7 }

unfoldable pub shown : Timing → Serial → ℕ
shown T s = level T s + 2 * s.ready + 4 * cond (busy s) 0 1 + 8 * s.byte

unfoldable pub shown_in : Timing → Serial → List Given → List ℕ
shown_in T s [] = shown T s ∷ []
shown_in T s (i ∷ is) = shown T s ∷ shown_in T (serial_clock T i.line i.access s) is

unfoldable pub same : List ℕ → List ℕ → Bool
same [] [] = true
same [] (y ∷ ys) = false
same (x ∷ xs) [] = false
same (x ∷ xs) (y ∷ ys) = eqb x y && same xs ys

unfoldable pub all_same : List Row → Bool
all_same [] = true
all_same (r ∷ rs) = same (shown_in (timing r) serial_reset r.given) r.expected && all_same rs

abbrev pub rows : List Row
rows =
    record {
      period = 1;
      sample = 1;
      given = on 1 others ∷ on 1 (writes 758) ∷ on 0 others ∷ on 0 others ∷ on 1 reads ∷ on 1 others ∷ on 0 others ∷ on 1 others ∷
          on 1 others ∷ on 1 others ∷ on 1 others ∷ on 1 (writes 794) ∷ on 1 others ∷ on 1 (writes 141) ∷ on 0 (writes 927) ∷
          on 1 others ∷ on 0 others ∷ on 1 others ∷ on 1 (writes 970) ∷ on 0 others ∷ on 0 others ∷ on 0 others ∷ on 1 others ∷
          on 1 (writes 1976) ∷ on 1 (writes 5) ∷ on 0 (writes 3251) ∷ on 1 others ∷ on 0 others ∷ on 1 others ∷ on 0 others ∷
          on 0 others ∷ on 0 (writes 4294574744) ∷ on 0 others ∷ on 0 others ∷ on 1 (writes 418) ∷ on 1 reads ∷ on 1 (writes 3204) ∷
          on 0 reads ∷ on 0 others ∷ on 0 others ∷ on 1 others ∷ on 0 others ∷ on 0 (writes 695) ∷ on 0 others ∷ on 0 others ∷
          on 1 others ∷ on 1 others ∷ on 1 reads ∷ on 1 (writes 4294765799) ∷ on 0 others ∷ on 1 others ∷ on 1 others ∷ on 1 others ∷
          on 0 (writes 580) ∷ on 0 others ∷ on 1 others ∷ on 1 others ∷ on 1 others ∷ on 1 others ∷ on 1 (writes 4294753003) ∷
          on 0 (writes 787) ∷ on 1 others ∷ on 1 others ∷ on 0 others ∷ on 1 others ∷ on 0 others ∷ on 1 others ∷ on 1 others ∷
          on 1 (writes 244) ∷ on 1 (writes 17) ∷ on 1 (writes 4294334723) ∷ on 0 (writes 171) ∷ on 1 others ∷ on 1 others ∷
          on 0 others ∷ on 0 others ∷ on 0 others ∷ on 0 (writes 317) ∷ on 0 others ∷ on 0 reads ∷ on 1 (writes 973) ∷
          on 1 (writes 4294145021) ∷ on 0 others ∷ on 1 others ∷ on 0 reads ∷ on 1 others ∷ on 1 others ∷ on 1 others ∷
          on 1 (writes 4294229477) ∷ on 1 others ∷ [];
      expected = 5 ∷ 5 ∷ 0 ∷ 0 ∷ 1 ∷ 1 ∷ 0 ∷ 1 ∷ 1 ∷ 1 ∷ 1 ∷ 1 ∷ 1975 ∷ 1975 ∷ 1970 ∷ 1971 ∷ 1970 ∷ 1971 ∷ 1971 ∷ 1970 ∷ 1970 ∷
          1970 ∷ 1971 ∷ 1971 ∷ 1135 ∷ 1130 ∷ 1131 ∷ 1130 ∷ 1131 ∷ 1130 ∷ 1130 ∷ 1130 ∷ 1130 ∷ 1130 ∷ 1131 ∷ 47 ∷ 45 ∷ 40 ∷ 40 ∷ 40 ∷
          41 ∷ 40 ∷ 40 ∷ 40 ∷ 40 ∷ 41 ∷ 41 ∷ 1063 ∷ 1061 ∷ 1056 ∷ 1057 ∷ 1057 ∷ 1057 ∷ 1056 ∷ 1056 ∷ 1057 ∷ 1057 ∷ 1057 ∷ 1057 ∷
          1855 ∷ 1850 ∷ 1851 ∷ 1851 ∷ 1850 ∷ 1851 ∷ 1850 ∷ 1851 ∷ 1851 ∷ 1851 ∷ 1851 ∷ 1887 ∷ 1882 ∷ 1883 ∷ 1883 ∷ 1882 ∷ 1882 ∷
          1882 ∷ 1882 ∷ 1882 ∷ 1882 ∷ 1881 ∷ 31 ∷ 26 ∷ 27 ∷ 26 ∷ 25 ∷ 25 ∷ 25 ∷ 25 ∷ 25 ∷ 25 ∷ [];
    }
    ∷ record {
      period = 2;
      sample = 1;
      given = on 1 others ∷ on 1 others ∷ on 1 others ∷ on 1 (writes 2854) ∷ on 0 (writes 832) ∷ on 0 others ∷ on 0 others ∷
          on 0 (writes 1254) ∷ on 1 others ∷ on 1 others ∷ on 1 others ∷ on 1 others ∷ on 0 others ∷ on 0 others ∷ on 0 others ∷
          on 0 others ∷ on 1 others ∷ on 1 others ∷ on 0 others ∷ on 0 others ∷ on 0 others ∷ on 0 others ∷ on 1 reads ∷
          on 1 (writes 4294360560) ∷ on 1 (writes 349) ∷ on 0 others ∷ on 0 others ∷ on 1 others ∷ on 1 others ∷ on 0 others ∷
          on 0 others ∷ on 1 others ∷ on 1 others ∷ on 1 others ∷ on 1 others ∷ on 1 others ∷ on 1 others ∷ on 0 others ∷
          on 0 others ∷ on 1 others ∷ on 1 others ∷ on 0 others ∷ on 0 others ∷ on 1 others ∷ on 1 (writes 172) ∷ on 1 others ∷
          on 1 reads ∷ on 1 (writes 266) ∷ on 0 others ∷ on 0 others ∷ on 0 others ∷ on 0 others ∷ on 1 others ∷ on 1 others ∷
          on 0 (writes 427) ∷ on 0 others ∷ on 1 others ∷ on 1 others ∷ on 0 others ∷ on 0 others ∷ on 0 others ∷ on 0 others ∷
          on 0 others ∷ on 0 others ∷ on 0 others ∷ on 0 others ∷ on 1 others ∷ on 1 (writes 4294078862) ∷ on 1 others ∷ on 1 others ∷
          on 1 (writes 4003) ∷ on 0 others ∷ on 0 (writes 629) ∷ on 1 others ∷ on 1 others ∷ on 1 others ∷ on 1 others ∷ on 0 others ∷
          on 0 others ∷ on 0 others ∷ on 0 others ∷ on 0 others ∷ on 0 others ∷ on 1 others ∷ on 1 others ∷ on 0 others ∷
          on 0 others ∷ on 1 others ∷ on 1 others ∷ on 1 others ∷ on 1 (writes 871) ∷ on 1 (writes 4294285168) ∷
          on 0 (writes 4293996946) ∷ on 0 others ∷ on 0 others ∷ on 0 others ∷ on 0 others ∷ on 0 others ∷ on 0 others ∷ on 0 others ∷
          on 0 others ∷ on 0 (writes 4294839153) ∷ on 1 others ∷ on 1 others ∷ on 1 others ∷ on 1 others ∷ on 1 others ∷ on 1 others ∷
          on 0 others ∷ on 0 others ∷ [];
      expected = 5 ∷ 5 ∷ 5 ∷ 5 ∷ 0 ∷ 0 ∷ 0 ∷ 0 ∷ 1 ∷ 1 ∷ 1 ∷ 1 ∷ 0 ∷ 0 ∷ 0 ∷ 0 ∷ 1 ∷ 1 ∷ 0 ∷ 0 ∷ 0 ∷ 0 ∷ 1 ∷ 307 ∷ 311 ∷ 306 ∷
          306 ∷ 307 ∷ 307 ∷ 306 ∷ 306 ∷ 307 ∷ 307 ∷ 307 ∷ 307 ∷ 307 ∷ 307 ∷ 306 ∷ 306 ∷ 307 ∷ 307 ∷ 306 ∷ 306 ∷ 307 ∷ 747 ∷ 751 ∷
          751 ∷ 749 ∷ 744 ∷ 744 ∷ 744 ∷ 744 ∷ 745 ∷ 745 ∷ 744 ∷ 744 ∷ 745 ∷ 745 ∷ 744 ∷ 744 ∷ 744 ∷ 744 ∷ 744 ∷ 744 ∷ 744 ∷ 744 ∷
          745 ∷ 83 ∷ 87 ∷ 87 ∷ 87 ∷ 82 ∷ 82 ∷ 83 ∷ 83 ∷ 83 ∷ 83 ∷ 82 ∷ 82 ∷ 82 ∷ 82 ∷ 82 ∷ 82 ∷ 83 ∷ 83 ∷ 82 ∷ 82 ∷ 83 ∷ 83 ∷ 83 ∷
          1307 ∷ 1311 ∷ 1306 ∷ 1306 ∷ 1306 ∷ 1306 ∷ 1306 ∷ 1306 ∷ 1306 ∷ 1306 ∷ 1306 ∷ 1306 ∷ 1307 ∷ 1307 ∷ 1307 ∷ 1307 ∷ 1307 ∷
          1307 ∷ 1306 ∷ 1306 ∷ 1307 ∷ [];
    }
    ∷ record {
      period = 3;
      sample = 2;
      given = on 1 others ∷ on 1 (writes 863) ∷ on 0 others ∷ on 0 others ∷ on 0 reads ∷ on 1 others ∷ on 1 others ∷ on 1 others ∷
          on 1 others ∷ on 1 others ∷ on 1 others ∷ on 1 others ∷ on 1 others ∷ on 1 others ∷ on 1 others ∷ on 1 (writes 4294058436) ∷
          on 1 others ∷ on 1 others ∷ on 1 others ∷ on 1 others ∷ on 0 others ∷ on 0 others ∷ on 0 others ∷ on 1 others ∷
          on 1 others ∷ on 1 others ∷ on 0 others ∷ on 0 others ∷ on 0 others ∷ on 1 others ∷ on 1 others ∷ on 1 others ∷
          on 1 (writes 4294390882) ∷ on 0 others ∷ on 0 others ∷ on 0 others ∷ on 0 others ∷ on 0 others ∷ on 0 others ∷ on 1 others ∷
          on 1 others ∷ on 1 others ∷ on 0 others ∷ on 0 others ∷ on 0 others ∷ on 0 others ∷ on 0 (writes 4294439264) ∷ on 0 others ∷
          on 0 others ∷ on 0 others ∷ on 0 others ∷ on 1 others ∷ on 1 others ∷ on 1 others ∷ on 1 others ∷ on 1 others ∷
          on 1 others ∷ on 0 others ∷ on 0 others ∷ on 0 others ∷ on 1 others ∷ on 1 reads ∷ on 1 (writes 4294776779) ∷
          on 1 (writes 700) ∷ on 0 others ∷ on 0 others ∷ on 0 others ∷ on 0 others ∷ on 0 others ∷ on 0 (writes 1005) ∷ on 0 others ∷
          on 0 others ∷ on 0 others ∷ on 1 others ∷ on 1 others ∷ on 1 others ∷ on 1 others ∷ on 1 others ∷ on 1 others ∷
          on 1 others ∷ on 1 others ∷ on 1 others ∷ on 1 others ∷ on 1 others ∷ on 1 others ∷ on 0 others ∷ on 0 others ∷
          on 0 others ∷ on 1 others ∷ on 1 others ∷ on 1 others ∷ on 1 others ∷ on 1 others ∷ on 1 (writes 975) ∷
          on 1 (writes 4294328860) ∷ on 0 reads ∷ on 0 others ∷ on 0 others ∷ on 0 others ∷ on 0 others ∷ on 0 others ∷ on 0 others ∷
          on 0 others ∷ on 0 others ∷ on 1 others ∷ on 1 others ∷ on 1 (writes 4042) ∷ on 1 others ∷ on 1 others ∷ on 1 others ∷
          on 1 others ∷ on 1 others ∷ on 1 others ∷ on 0 others ∷ on 0 others ∷ on 0 others ∷ on 0 others ∷ on 0 others ∷
          on 0 others ∷ on 0 others ∷ on 0 others ∷ on 0 others ∷ on 1 others ∷ on 1 others ∷ on 1 (writes 4294525892) ∷
          on 1 (writes 4294649410) ∷ on 0 (writes 255) ∷ on 0 others ∷ on 0 others ∷ on 0 others ∷ [];
      expected = 5 ∷ 5 ∷ 0 ∷ 0 ∷ 0 ∷ 1 ∷ 1 ∷ 1 ∷ 1 ∷ 1 ∷ 1 ∷ 1 ∷ 1 ∷ 1 ∷ 1 ∷ 1 ∷ 1 ∷ 1 ∷ 1 ∷ 1 ∷ 0 ∷ 0 ∷ 0 ∷ 1 ∷ 1 ∷ 1 ∷ 0 ∷ 0 ∷
          0 ∷ 1 ∷ 1 ∷ 763 ∷ 767 ∷ 762 ∷ 762 ∷ 762 ∷ 762 ∷ 762 ∷ 762 ∷ 763 ∷ 763 ∷ 763 ∷ 762 ∷ 762 ∷ 762 ∷ 762 ∷ 762 ∷ 762 ∷ 762 ∷
          762 ∷ 762 ∷ 763 ∷ 763 ∷ 763 ∷ 763 ∷ 763 ∷ 763 ∷ 762 ∷ 762 ∷ 762 ∷ 763 ∷ 763 ∷ 787 ∷ 791 ∷ 786 ∷ 786 ∷ 786 ∷ 786 ∷ 786 ∷
          786 ∷ 786 ∷ 786 ∷ 786 ∷ 787 ∷ 787 ∷ 787 ∷ 787 ∷ 787 ∷ 787 ∷ 787 ∷ 787 ∷ 787 ∷ 787 ∷ 787 ∷ 787 ∷ 786 ∷ 786 ∷ 786 ∷ 787 ∷
          787 ∷ 787 ∷ 787 ∷ 787 ∷ 1507 ∷ 1511 ∷ 1506 ∷ 1504 ∷ 1504 ∷ 1504 ∷ 1504 ∷ 1504 ∷ 1504 ∷ 1504 ∷ 1504 ∷ 1505 ∷ 1505 ∷ 1505 ∷
          1505 ∷ 1505 ∷ 1505 ∷ 1505 ∷ 1505 ∷ 1505 ∷ 1504 ∷ 1504 ∷ 1504 ∷ 1504 ∷ 1504 ∷ 1504 ∷ 1504 ∷ 1504 ∷ 1504 ∷ 1505 ∷ 1505 ∷ 227 ∷
          231 ∷ 226 ∷ 226 ∷ 226 ∷ 226 ∷ 226 ∷ [];
    }
    ∷ record {
      period = 5;
      sample = 3;
      given = on 1 others ∷ on 1 others ∷ on 1 others ∷ on 1 (writes 251) ∷ on 0 (writes 843) ∷ on 0 others ∷ on 0 others ∷
          on 0 others ∷ on 0 others ∷ on 1 others ∷ on 1 others ∷ on 1 others ∷ on 1 others ∷ on 1 others ∷ on 1 others ∷
          on 1 others ∷ on 1 others ∷ on 1 others ∷ on 1 others ∷ on 0 others ∷ on 0 others ∷ on 0 others ∷ on 0 others ∷
          on 0 others ∷ on 1 others ∷ on 1 others ∷ on 1 others ∷ on 1 others ∷ on 1 others ∷ on 1 others ∷ on 1 others ∷
          on 1 others ∷ on 1 others ∷ on 1 others ∷ on 1 others ∷ on 1 others ∷ on 1 others ∷ on 1 others ∷ on 1 others ∷
          on 1 others ∷ on 1 others ∷ on 1 others ∷ on 1 others ∷ on 1 others ∷ on 1 others ∷ on 1 others ∷ on 1 others ∷
          on 1 others ∷ on 1 others ∷ on 1 others ∷ on 1 others ∷ on 1 reads ∷ on 1 others ∷ on 1 (writes 407) ∷ on 1 others ∷
          on 1 others ∷ on 1 others ∷ on 1 others ∷ on 1 (writes 4294741623) ∷ on 0 others ∷ on 0 others ∷ on 0 others ∷ on 0 others ∷
          on 0 others ∷ on 1 others ∷ on 1 others ∷ on 1 others ∷ on 1 others ∷ on 1 others ∷ on 1 others ∷ on 1 others ∷
          on 1 others ∷ on 1 others ∷ on 1 others ∷ on 1 others ∷ on 1 others ∷ on 1 others ∷ on 1 others ∷ on 1 others ∷
          on 0 others ∷ on 0 others ∷ on 0 others ∷ on 0 others ∷ on 0 others ∷ on 1 others ∷ on 1 others ∷ on 1 others ∷
          on 1 others ∷ on 1 others ∷ on 1 others ∷ on 1 others ∷ on 1 others ∷ on 1 others ∷ on 1 others ∷ on 1 others ∷
          on 1 others ∷ on 1 others ∷ on 1 others ∷ on 1 others ∷ on 0 others ∷ on 0 others ∷ on 0 others ∷ on 0 others ∷
          on 0 others ∷ on 1 others ∷ on 1 others ∷ on 1 others ∷ on 1 reads ∷ on 1 (writes 2658) ∷ on 1 reads ∷ on 1 others ∷
          on 1 others ∷ on 1 others ∷ on 1 (writes 4294889987) ∷ on 0 others ∷ on 0 others ∷ on 0 others ∷ on 0 others ∷ on 0 others ∷
          on 1 others ∷ on 1 others ∷ on 1 others ∷ on 1 others ∷ on 1 others ∷ on 1 others ∷ on 1 others ∷ on 1 others ∷
          on 1 others ∷ [];
      expected = 5 ∷ 5 ∷ 5 ∷ 5 ∷ 0 ∷ 0 ∷ 0 ∷ 0 ∷ 0 ∷ 1 ∷ 1 ∷ 1 ∷ 1 ∷ 1 ∷ 1 ∷ 1 ∷ 1 ∷ 1 ∷ 1 ∷ 0 ∷ 0 ∷ 0 ∷ 0 ∷ 0 ∷ 1 ∷ 1 ∷ 1 ∷ 1 ∷
          1 ∷ 1 ∷ 1 ∷ 1 ∷ 1 ∷ 1 ∷ 1 ∷ 1 ∷ 1 ∷ 1 ∷ 1 ∷ 1 ∷ 1 ∷ 1 ∷ 1 ∷ 1 ∷ 1 ∷ 1 ∷ 1 ∷ 1 ∷ 1 ∷ 1 ∷ 1 ∷ 1 ∷ 2011 ∷ 2011 ∷ 2015 ∷ 2015 ∷
          2015 ∷ 2015 ∷ 2015 ∷ 2010 ∷ 2010 ∷ 2010 ∷ 2010 ∷ 2010 ∷ 2011 ∷ 2011 ∷ 2011 ∷ 2011 ∷ 2011 ∷ 2011 ∷ 2011 ∷ 2011 ∷ 2011 ∷
          2011 ∷ 2011 ∷ 2011 ∷ 2011 ∷ 2011 ∷ 2011 ∷ 2010 ∷ 2010 ∷ 2010 ∷ 2010 ∷ 2010 ∷ 2011 ∷ 2011 ∷ 2011 ∷ 2011 ∷ 2011 ∷ 2011 ∷
          2011 ∷ 2011 ∷ 2011 ∷ 2011 ∷ 2011 ∷ 2011 ∷ 2011 ∷ 2011 ∷ 2011 ∷ 2010 ∷ 2010 ∷ 2010 ∷ 2010 ∷ 2010 ∷ 2011 ∷ 2011 ∷ 2011 ∷ 955 ∷
          953 ∷ 957 ∷ 957 ∷ 957 ∷ 957 ∷ 957 ∷ 952 ∷ 952 ∷ 952 ∷ 952 ∷ 952 ∷ 953 ∷ 953 ∷ 953 ∷ 953 ∷ 953 ∷ 953 ∷ 953 ∷ 953 ∷ 953 ∷
          953 ∷ [];
    }
    ∷ record {
      period = 1;
      sample = 1;
      given = on 0 others ∷ on 0 others ∷ on 1 (writes 895) ∷ on 1 (writes 847) ∷ on 0 reads ∷ on 1 others ∷ on 0 others ∷
          on 1 others ∷ on 1 others ∷ on 0 reads ∷ on 1 others ∷ on 1 (writes 2799) ∷ on 1 (writes 310) ∷ on 1 (writes 724) ∷
          on 1 others ∷ on 0 others ∷ on 0 others ∷ on 1 others ∷ on 1 others ∷ on 1 others ∷ on 0 others ∷ on 1 others ∷
          on 0 others ∷ on 1 (writes 449) ∷ on 1 others ∷ on 1 (writes 4294686324) ∷ on 0 others ∷ on 1 reads ∷ on 0 others ∷
          on 1 others ∷ on 0 others ∷ on 1 others ∷ on 0 others ∷ on 1 others ∷ on 0 others ∷ on 0 (writes 4294701078) ∷ on 1 reads ∷
          on 1 (writes 4294897215) ∷ on 0 others ∷ on 1 others ∷ on 0 others ∷ on 0 (writes 4294422623) ∷ on 1 others ∷ on 0 others ∷
          on 1 others ∷ on 1 others ∷ on 1 others ∷ on 0 (writes 4294891606) ∷ on 1 others ∷ on 0 others ∷ on 0 (writes 757) ∷
          on 0 others ∷ on 0 others ∷ on 1 others ∷ on 0 others ∷ on 1 others ∷ on 0 others ∷ on 0 others ∷ on 1 reads ∷ on 0 others ∷
          on 0 (writes 395) ∷ on 1 others ∷ on 1 others ∷ on 0 (writes 213) ∷ on 0 others ∷ on 1 others ∷ on 0 others ∷ on 1 reads ∷
          on 1 others ∷ on 1 reads ∷ on 0 others ∷ on 1 others ∷ on 1 reads ∷ on 0 (writes 627) ∷ on 1 others ∷ on 0 others ∷
          on 1 (writes 4294625699) ∷ on 0 others ∷ on 1 others ∷ on 0 reads ∷ [];
      expected = 5 ∷ 5 ∷ 5 ∷ 0 ∷ 1 ∷ 1 ∷ 1 ∷ 1 ∷ 1 ∷ 1 ∷ 1715 ∷ 1714 ∷ 1715 ∷ 1719 ∷ 1714 ∷ 1714 ∷ 1714 ∷ 1715 ∷ 1714 ∷ 1715 ∷
          1714 ∷ 1715 ∷ 1715 ∷ 1715 ∷ 1719 ∷ 1399 ∷ 1394 ∷ 1394 ∷ 1392 ∷ 1393 ∷ 1392 ∷ 1393 ∷ 1393 ∷ 1393 ∷ 1392 ∷ 1393 ∷ 687 ∷ 685 ∷
          680 ∷ 681 ∷ 681 ∷ 681 ∷ 681 ∷ 681 ∷ 681 ∷ 680 ∷ 680 ∷ 681 ∷ 1871 ∷ 1871 ∷ 1871 ∷ 1866 ∷ 1867 ∷ 1866 ∷ 1867 ∷ 1866 ∷ 1867 ∷
          1867 ∷ 1867 ∷ 323 ∷ 323 ∷ 327 ∷ 327 ∷ 327 ∷ 322 ∷ 323 ∷ 322 ∷ 323 ∷ 320 ∷ 1331 ∷ 1328 ∷ 1329 ∷ 1329 ∷ 1329 ∷ 1333 ∷ 1333 ∷
          1333 ∷ 1328 ∷ 1329 ∷ 1329 ∷ 1370 ∷ [];
    }
    ∷ record {
      period = 2;
      sample = 2;
      given = on 1 others ∷ on 1 (writes 83) ∷ on 1 (writes 18) ∷ on 0 others ∷ on 0 reads ∷ on 1 others ∷ on 0 others ∷
          on 0 others ∷ on 0 others ∷ on 0 others ∷ on 0 others ∷ on 0 others ∷ on 0 others ∷ on 1 others ∷ on 1 others ∷
          on 1 others ∷ on 0 others ∷ on 0 others ∷ on 0 others ∷ on 0 others ∷ on 1 others ∷ on 0 (writes 4294425437) ∷
          on 0 (writes 12) ∷ on 0 others ∷ on 1 others ∷ on 1 others ∷ on 1 others ∷ on 1 others ∷ on 1 others ∷ on 1 others ∷
          on 0 others ∷ on 1 others ∷ on 1 others ∷ on 1 others ∷ on 0 others ∷ on 0 others ∷ on 1 others ∷ on 1 others ∷
          on 0 others ∷ on 0 others ∷ on 0 others ∷ on 1 others ∷ on 1 (writes 162) ∷ on 1 (writes 4294458030) ∷ on 1 (writes 377) ∷
          on 1 reads ∷ on 0 others ∷ on 0 others ∷ on 0 others ∷ on 0 others ∷ on 1 others ∷ on 1 others ∷ on 1 others ∷ on 0 others ∷
          on 0 others ∷ on 0 others ∷ on 1 others ∷ on 1 others ∷ on 0 others ∷ on 1 others ∷ on 0 others ∷ on 0 others ∷
          on 0 others ∷ on 0 (writes 16) ∷ on 0 others ∷ on 1 (writes 2361) ∷ on 0 reads ∷ on 0 others ∷ on 0 others ∷ on 0 others ∷
          on 0 others ∷ on 1 others ∷ on 1 others ∷ on 1 others ∷ on 1 others ∷ on 0 others ∷ on 0 others ∷ on 1 others ∷
          on 0 others ∷ on 1 others ∷ on 0 others ∷ on 0 others ∷ on 0 others ∷ on 1 others ∷ on 0 others ∷ on 1 others ∷
          on 1 others ∷ on 1 (writes 244) ∷ on 1 others ∷ on 1 others ∷ on 1 others ∷ on 1 others ∷ on 1 others ∷ on 1 others ∷
          on 1 others ∷ on 0 others ∷ on 0 others ∷ on 0 others ∷ on 1 others ∷ on 0 others ∷ on 0 others ∷ on 0 others ∷
          on 1 others ∷ on 0 others ∷ on 0 (writes 4294636312) ∷ on 1 others ∷ on 1 others ∷ on 1 (writes 449) ∷ on 1 others ∷
          on 1 (writes 62) ∷ [];
      expected = 5 ∷ 5 ∷ 0 ∷ 0 ∷ 1 ∷ 1 ∷ 1 ∷ 1 ∷ 0 ∷ 0 ∷ 0 ∷ 0 ∷ 1 ∷ 1 ∷ 0 ∷ 0 ∷ 1 ∷ 1 ∷ 0 ∷ 0 ∷ 1 ∷ 1 ∷ 5 ∷ 1154 ∷ 1154 ∷ 1154 ∷
          1154 ∷ 1154 ∷ 1154 ∷ 1155 ∷ 1155 ∷ 1155 ∷ 1155 ∷ 1154 ∷ 1154 ∷ 1154 ∷ 1154 ∷ 1154 ∷ 1154 ∷ 1154 ∷ 1154 ∷ 1155 ∷ 1155 ∷ 351 ∷
          346 ∷ 346 ∷ 344 ∷ 344 ∷ 345 ∷ 345 ∷ 345 ∷ 345 ∷ 345 ∷ 345 ∷ 344 ∷ 344 ∷ 345 ∷ 345 ∷ 344 ∷ 344 ∷ 345 ∷ 345 ∷ 345 ∷ 345 ∷
          349 ∷ 349 ∷ 402 ∷ 400 ∷ 401 ∷ 401 ∷ 400 ∷ 400 ∷ 400 ∷ 400 ∷ 401 ∷ 401 ∷ 401 ∷ 401 ∷ 401 ∷ 401 ∷ 400 ∷ 400 ∷ 400 ∷ 400 ∷
          401 ∷ 401 ∷ 1463 ∷ 1463 ∷ 1458 ∷ 1458 ∷ 1458 ∷ 1458 ∷ 1458 ∷ 1458 ∷ 1459 ∷ 1459 ∷ 1458 ∷ 1458 ∷ 1459 ∷ 1459 ∷ 1459 ∷ 1459 ∷
          1459 ∷ 1459 ∷ 1459 ∷ 1459 ∷ 1459 ∷ 1459 ∷ 1463 ∷ 1463 ∷ 1458 ∷ [];
    }
    ∷ record {
      period = 3;
      sample = 1;
      given = on 1 others ∷ on 0 others ∷ on 0 others ∷ on 0 (writes 4294173349) ∷ on 1 (writes 235) ∷ on 1 others ∷ on 1 others ∷
          on 0 others ∷ on 0 others ∷ on 0 others ∷ on 0 others ∷ on 0 others ∷ on 0 others ∷ on 1 others ∷ on 1 others ∷
          on 1 others ∷ on 0 others ∷ on 0 others ∷ on 0 others ∷ on 1 others ∷ on 1 others ∷ on 1 others ∷ on 1 others ∷
          on 1 others ∷ on 1 others ∷ on 0 others ∷ on 0 others ∷ on 0 others ∷ on 0 reads ∷ on 0 others ∷ on 0 others ∷ on 0 others ∷
          on 1 (writes 2739) ∷ on 1 (writes 582) ∷ on 1 others ∷ on 0 others ∷ on 0 others ∷ on 0 (writes 4294788951) ∷
          on 1 (writes 4294240592) ∷ on 1 others ∷ on 1 others ∷ on 1 others ∷ on 1 others ∷ on 1 others ∷ on 0 others ∷ on 0 others ∷
          on 0 others ∷ on 1 others ∷ on 1 others ∷ on 1 others ∷ on 0 others ∷ on 0 others ∷ on 0 others ∷ on 1 others ∷
          on 1 others ∷ on 1 others ∷ on 1 others ∷ on 0 reads ∷ on 0 others ∷ on 0 reads ∷ on 0 others ∷ on 0 others ∷ on 0 others ∷
          on 1 others ∷ on 1 (writes 3650) ∷ on 1 others ∷ on 0 others ∷ on 0 (writes 1119) ∷ on 0 others ∷ on 0 others ∷
          on 0 others ∷ on 0 others ∷ on 1 others ∷ on 1 others ∷ on 1 (writes 92) ∷ on 1 others ∷ on 1 others ∷ on 1 others ∷
          on 0 others ∷ on 0 others ∷ on 0 others ∷ on 0 others ∷ on 0 others ∷ on 0 others ∷ on 1 others ∷ on 0 reads ∷ on 0 others ∷
          on 0 others ∷ on 0 others ∷ on 0 (writes 3576) ∷ on 0 others ∷ on 1 others ∷ on 1 others ∷ on 1 others ∷ on 1 others ∷
          on 1 others ∷ on 1 others ∷ on 1 others ∷ on 1 others ∷ on 1 others ∷ on 1 others ∷ on 1 others ∷ on 1 others ∷
          on 1 others ∷ on 1 (writes 2103) ∷ on 1 others ∷ on 0 others ∷ on 0 others ∷ on 0 others ∷ on 0 others ∷ on 0 others ∷
          on 0 others ∷ on 1 (writes 3964) ∷ on 0 others ∷ on 0 others ∷ on 0 others ∷ on 1 others ∷ on 1 others ∷
          on 1 (writes 4294527246) ∷ on 0 others ∷ [];
      expected = 5 ∷ 5 ∷ 5 ∷ 5 ∷ 0 ∷ 0 ∷ 0 ∷ 1 ∷ 1 ∷ 1 ∷ 0 ∷ 0 ∷ 0 ∷ 1 ∷ 1 ∷ 1 ∷ 0 ∷ 0 ∷ 0 ∷ 0 ∷ 0 ∷ 0 ∷ 1 ∷ 1 ∷ 1 ∷ 0 ∷ 0 ∷ 0 ∷
          1 ∷ 843 ∷ 843 ∷ 843 ∷ 843 ∷ 843 ∷ 847 ∷ 847 ∷ 847 ∷ 847 ∷ 842 ∷ 842 ∷ 842 ∷ 843 ∷ 843 ∷ 843 ∷ 843 ∷ 843 ∷ 843 ∷ 843 ∷ 843 ∷
          843 ∷ 842 ∷ 842 ∷ 842 ∷ 843 ∷ 843 ∷ 843 ∷ 842 ∷ 1386 ∷ 1384 ∷ 1385 ∷ 1385 ∷ 1385 ∷ 1384 ∷ 1384 ∷ 1384 ∷ 1385 ∷ 1385 ∷ 1385 ∷
          1389 ∷ 1389 ∷ 1389 ∷ 1389 ∷ 1389 ∷ 1389 ∷ 1389 ∷ 1384 ∷ 1384 ∷ 1384 ∷ 1384 ∷ 1384 ∷ 1384 ∷ 1384 ∷ 1384 ∷ 1384 ∷ 1385 ∷ 403 ∷
          401 ∷ 401 ∷ 401 ∷ 401 ∷ 401 ∷ 401 ∷ 401 ∷ 400 ∷ 400 ∷ 400 ∷ 401 ∷ 401 ∷ 401 ∷ 400 ∷ 400 ∷ 400 ∷ 401 ∷ 401 ∷ 401 ∷ 405 ∷
          405 ∷ 405 ∷ 405 ∷ 405 ∷ 405 ∷ 405 ∷ 405 ∷ 498 ∷ 498 ∷ 498 ∷ 498 ∷ 498 ∷ 498 ∷ 498 ∷ 498 ∷ [];
    }
    ∷ record {
      period = 4;
      sample = 2;
      given = on 1 others ∷ on 1 others ∷ on 0 others ∷ on 0 (writes 19) ∷ on 0 (writes 173) ∷ on 0 others ∷ on 0 others ∷
          on 0 others ∷ on 0 others ∷ on 0 others ∷ on 0 others ∷ on 0 others ∷ on 0 others ∷ on 0 others ∷ on 0 others ∷
          on 0 others ∷ on 0 others ∷ on 0 others ∷ on 0 others ∷ on 0 others ∷ on 0 others ∷ on 0 others ∷ on 0 others ∷
          on 0 others ∷ on 0 others ∷ on 0 others ∷ on 0 others ∷ on 0 others ∷ on 0 others ∷ on 0 others ∷ on 0 others ∷
          on 0 others ∷ on 0 others ∷ on 0 others ∷ on 0 others ∷ on 0 others ∷ on 0 others ∷ on 0 others ∷ on 0 others ∷ on 0 reads ∷
          on 0 others ∷ on 0 others ∷ on 0 others ∷ on 0 (writes 309) ∷ on 0 others ∷ on 0 (writes 149) ∷ on 0 others ∷ on 0 others ∷
          on 0 others ∷ on 0 others ∷ on 0 others ∷ on 0 others ∷ on 0 others ∷ on 0 others ∷ on 0 others ∷ on 0 others ∷
          on 0 others ∷ on 0 others ∷ on 0 others ∷ on 0 others ∷ on 0 others ∷ on 0 others ∷ on 0 others ∷ on 0 others ∷
          on 0 others ∷ on 0 others ∷ on 0 others ∷ on 0 others ∷ on 0 others ∷ on 0 others ∷ on 0 others ∷ on 0 others ∷
          on 0 others ∷ on 0 others ∷ on 0 others ∷ on 0 others ∷ on 0 others ∷ on 0 others ∷ on 0 reads ∷ on 0 others ∷ on 0 reads ∷
          on 0 others ∷ on 0 (writes 4294844438) ∷ on 0 others ∷ on 0 others ∷ on 0 (writes 91) ∷ on 0 others ∷ on 0 (writes 1023) ∷
          on 0 others ∷ on 0 others ∷ on 0 others ∷ on 0 others ∷ on 0 others ∷ on 0 others ∷ on 0 others ∷ on 0 others ∷
          on 0 others ∷ on 0 others ∷ on 0 others ∷ on 0 others ∷ on 0 others ∷ on 0 others ∷ on 0 others ∷ on 0 others ∷
          on 0 others ∷ on 0 others ∷ on 0 others ∷ on 0 others ∷ on 1 others ∷ on 1 others ∷ on 1 others ∷ on 1 others ∷
          on 1 others ∷ on 0 others ∷ on 1 others ∷ on 1 others ∷ on 1 reads ∷ on 0 others ∷ on 0 others ∷ on 0 others ∷ on 0 others ∷
          on 1 others ∷ on 1 others ∷ on 0 others ∷ on 1 others ∷ on 1 others ∷ on 1 others ∷ on 0 (writes 4294512087) ∷ on 0 others ∷
          on 0 others ∷ [];
      expected = 5 ∷ 5 ∷ 5 ∷ 5 ∷ 0 ∷ 0 ∷ 0 ∷ 0 ∷ 1 ∷ 1 ∷ 1 ∷ 1 ∷ 1 ∷ 1 ∷ 1 ∷ 1 ∷ 0 ∷ 0 ∷ 0 ∷ 0 ∷ 0 ∷ 0 ∷ 0 ∷ 0 ∷ 1 ∷ 1 ∷ 1 ∷ 1 ∷
          0 ∷ 0 ∷ 0 ∷ 0 ∷ 0 ∷ 0 ∷ 0 ∷ 0 ∷ 0 ∷ 0 ∷ 0 ∷ 0 ∷ 3 ∷ 3 ∷ 3 ∷ 3 ∷ 7 ∷ 7 ∷ 2 ∷ 2 ∷ 2 ∷ 2 ∷ 3 ∷ 3 ∷ 3 ∷ 3 ∷ 2 ∷ 2 ∷ 2 ∷ 2 ∷ 3 ∷
          3 ∷ 3 ∷ 3 ∷ 2 ∷ 2 ∷ 2 ∷ 2 ∷ 3 ∷ 3 ∷ 3 ∷ 3 ∷ 2 ∷ 2 ∷ 2 ∷ 2 ∷ 2 ∷ 2 ∷ 2 ∷ 2 ∷ 3 ∷ 1 ∷ 1 ∷ 1 ∷ 1 ∷ 1 ∷ 1 ∷ 1 ∷ 5 ∷ 5 ∷ 0 ∷ 0 ∷
          0 ∷ 0 ∷ 1 ∷ 1 ∷ 1 ∷ 1 ∷ 1 ∷ 1 ∷ 1 ∷ 1 ∷ 1 ∷ 1 ∷ 1 ∷ 1 ∷ 1 ∷ 1 ∷ 1 ∷ 1 ∷ 1 ∷ 1 ∷ 1 ∷ 1 ∷ 1 ∷ 1 ∷ 1 ∷ 1 ∷ 1027 ∷ 1025 ∷ 1025 ∷
          1025 ∷ 1025 ∷ 1025 ∷ 1025 ∷ 1025 ∷ 1025 ∷ 1025 ∷ 1025 ∷ 1025 ∷ 1029 ∷ 1029 ∷ 1029 ∷ [];
    }
    ∷ record {
      period = 3;
      sample = 3;
      given = on 1 others ∷ on 1 (writes 4294137682) ∷ on 0 (writes 940) ∷ on 0 others ∷ on 0 reads ∷ on 1 others ∷ on 1 others ∷
          on 1 (writes 566) ∷ on 1 others ∷ on 0 others ∷ on 0 others ∷ on 0 others ∷ on 1 others ∷ on 1 others ∷ on 1 others ∷
          on 1 others ∷ on 1 others ∷ on 1 others ∷ on 1 others ∷ on 1 others ∷ on 1 others ∷ on 1 others ∷ on 1 others ∷
          on 0 others ∷ on 1 others ∷ on 1 others ∷ on 1 others ∷ on 1 others ∷ on 1 others ∷ on 1 others ∷ on 1 others ∷ on 1 reads ∷
          on 0 others ∷ on 0 others ∷ on 1 others ∷ on 1 (writes 4293925986) ∷ on 0 others ∷ on 1 others ∷ on 0 others ∷ on 0 others ∷
          on 0 others ∷ on 0 others ∷ on 0 others ∷ on 1 (writes 175) ∷ on 1 others ∷ on 1 others ∷ on 1 others ∷ on 1 others ∷
          on 1 others ∷ on 0 others ∷ on 1 others ∷ on 1 others ∷ on 0 others ∷ on 1 others ∷ on 1 others ∷ on 1 others ∷
          on 1 others ∷ on 1 others ∷ on 1 others ∷ on 0 others ∷ on 1 others ∷ on 1 others ∷ on 0 reads ∷ on 0 others ∷ on 0 reads ∷
          on 0 (writes 4293943583) ∷ on 0 others ∷ on 1 others ∷ on 1 (writes 34) ∷ on 1 (writes 143) ∷ on 0 others ∷ on 1 others ∷
          on 1 others ∷ on 1 others ∷ on 1 others ∷ on 1 others ∷ on 1 others ∷ on 1 others ∷ on 1 others ∷ on 1 others ∷
          on 0 others ∷ on 0 others ∷ on 0 others ∷ on 1 others ∷ on 0 others ∷ on 0 (writes 4294687570) ∷ on 1 others ∷ on 0 others ∷
          on 1 others ∷ on 1 others ∷ on 1 others ∷ on 0 others ∷ on 0 reads ∷ on 0 others ∷ on 0 others ∷ on 0 others ∷ on 1 others ∷
          on 1 others ∷ on 1 others ∷ on 1 (writes 399) ∷ on 1 others ∷ on 1 others ∷ on 0 others ∷ on 0 others ∷ on 0 others ∷
          on 1 others ∷ on 1 others ∷ on 1 others ∷ on 1 others ∷ on 0 others ∷ [];
      expected = 5 ∷ 5 ∷ 0 ∷ 0 ∷ 0 ∷ 0 ∷ 0 ∷ 0 ∷ 1 ∷ 1 ∷ 1 ∷ 0 ∷ 0 ∷ 0 ∷ 0 ∷ 0 ∷ 0 ∷ 1 ∷ 1 ∷ 1 ∷ 0 ∷ 0 ∷ 0 ∷ 1 ∷ 1 ∷ 1 ∷ 0 ∷ 0 ∷
          0 ∷ 1 ∷ 1 ∷ 1 ∷ 2031 ∷ 2031 ∷ 2031 ∷ 2031 ∷ 2026 ∷ 2026 ∷ 2026 ∷ 2026 ∷ 2026 ∷ 2026 ∷ 2027 ∷ 2027 ∷ 2027 ∷ 2026 ∷ 2026 ∷
          2026 ∷ 2026 ∷ 2026 ∷ 2026 ∷ 2026 ∷ 2026 ∷ 2026 ∷ 2027 ∷ 2027 ∷ 2027 ∷ 2027 ∷ 2027 ∷ 2027 ∷ 2026 ∷ 2026 ∷ 1642 ∷ 1641 ∷
          1641 ∷ 1641 ∷ 1645 ∷ 1645 ∷ 1645 ∷ 1640 ∷ 1640 ∷ 1640 ∷ 1640 ∷ 1640 ∷ 1640 ∷ 1641 ∷ 1641 ∷ 1641 ∷ 1640 ∷ 1640 ∷ 1640 ∷
          1640 ∷ 1640 ∷ 1640 ∷ 1640 ∷ 1640 ∷ 1640 ∷ 1641 ∷ 1641 ∷ 1641 ∷ 1640 ∷ 1640 ∷ 1258 ∷ 1256 ∷ 1256 ∷ 1256 ∷ 1257 ∷ 1257 ∷
          1257 ∷ 1261 ∷ 1256 ∷ 1256 ∷ 1256 ∷ 1257 ∷ 1257 ∷ 1257 ∷ 1257 ∷ 1257 ∷ 1257 ∷ 1257 ∷ 1257 ∷ [];
    }
    ∷ record {
      period = 5;
      sample = 2;
      given = on 0 others ∷ on 0 (writes 4294073535) ∷ on 0 others ∷ on 0 others ∷ on 0 reads ∷ on 1 others ∷ on 1 others ∷
          on 1 others ∷ on 1 others ∷ on 1 others ∷ on 1 others ∷ on 1 others ∷ on 1 others ∷ on 1 others ∷ on 1 others ∷
          on 1 others ∷ on 1 others ∷ on 1 others ∷ on 1 others ∷ on 1 others ∷ on 0 others ∷ on 0 others ∷ on 0 others ∷
          on 0 others ∷ on 0 others ∷ on 0 others ∷ on 0 (writes 1002) ∷ on 0 others ∷ on 0 others ∷ on 0 others ∷ on 1 others ∷
          on 1 others ∷ on 1 others ∷ on 1 others ∷ on 1 others ∷ on 1 others ∷ on 1 others ∷ on 1 others ∷ on 1 others ∷
          on 1 others ∷ on 0 others ∷ on 0 others ∷ on 0 others ∷ on 0 others ∷ on 0 others ∷ on 1 others ∷ on 1 reads ∷ on 0 others ∷
          on 0 others ∷ on 0 others ∷ on 0 others ∷ on 0 (writes 483) ∷ on 1 (writes 4294654154) ∷ on 1 others ∷ on 1 others ∷
          on 1 others ∷ on 1 others ∷ on 1 others ∷ on 1 others ∷ on 1 (writes 1555) ∷ on 1 others ∷ on 1 others ∷ on 1 others ∷
          on 1 others ∷ on 1 others ∷ on 1 others ∷ on 1 others ∷ on 1 others ∷ on 1 others ∷ on 1 others ∷ on 1 others ∷
          on 1 others ∷ on 0 others ∷ on 0 others ∷ on 0 others ∷ on 0 others ∷ on 0 others ∷ on 0 others ∷ on 0 others ∷
          on 0 others ∷ on 0 others ∷ on 0 others ∷ on 1 others ∷ on 1 others ∷ on 1 others ∷ on 1 others ∷ on 1 others ∷
          on 0 others ∷ on 0 others ∷ on 0 others ∷ on 0 others ∷ on 0 others ∷ on 1 others ∷ on 1 others ∷ on 0 reads ∷ on 0 others ∷
          on 0 reads ∷ on 0 others ∷ on 0 others ∷ on 0 others ∷ on 0 others ∷ on 0 others ∷ on 0 (writes 2400) ∷ on 0 others ∷
          on 1 (writes 47) ∷ on 1 others ∷ on 1 others ∷ on 1 others ∷ on 1 others ∷ on 1 others ∷ on 1 others ∷ on 1 others ∷
          on 1 others ∷ on 1 others ∷ on 0 others ∷ on 0 others ∷ on 0 others ∷ on 0 others ∷ on 0 others ∷ on 0 others ∷
          on 0 others ∷ on 0 others ∷ on 0 others ∷ on 0 others ∷ on 1 others ∷ on 1 others ∷ on 1 others ∷ on 1 others ∷
          on 1 others ∷ on 0 others ∷ [];
      expected = 5 ∷ 5 ∷ 0 ∷ 0 ∷ 0 ∷ 0 ∷ 0 ∷ 1 ∷ 1 ∷ 1 ∷ 1 ∷ 1 ∷ 1 ∷ 1 ∷ 1 ∷ 1 ∷ 1 ∷ 1 ∷ 1 ∷ 1 ∷ 1 ∷ 1 ∷ 1 ∷ 1 ∷ 1 ∷ 1 ∷ 1 ∷ 1 ∷
          1 ∷ 1 ∷ 1 ∷ 1 ∷ 1 ∷ 1 ∷ 1 ∷ 1 ∷ 1 ∷ 0 ∷ 0 ∷ 0 ∷ 0 ∷ 0 ∷ 1 ∷ 1 ∷ 1 ∷ 1 ∷ 1 ∷ 827 ∷ 827 ∷ 827 ∷ 827 ∷ 827 ∷ 831 ∷ 826 ∷ 826 ∷
          826 ∷ 826 ∷ 826 ∷ 826 ∷ 826 ∷ 826 ∷ 826 ∷ 826 ∷ 827 ∷ 827 ∷ 827 ∷ 827 ∷ 827 ∷ 826 ∷ 826 ∷ 826 ∷ 826 ∷ 826 ∷ 827 ∷ 827 ∷
          827 ∷ 827 ∷ 827 ∷ 826 ∷ 826 ∷ 826 ∷ 826 ∷ 826 ∷ 826 ∷ 826 ∷ 826 ∷ 826 ∷ 826 ∷ 827 ∷ 827 ∷ 827 ∷ 827 ∷ 827 ∷ 827 ∷ 635 ∷
          633 ∷ 633 ∷ 633 ∷ 633 ∷ 633 ∷ 633 ∷ 633 ∷ 633 ∷ 637 ∷ 637 ∷ 632 ∷ 632 ∷ 632 ∷ 632 ∷ 632 ∷ 633 ∷ 633 ∷ 633 ∷ 633 ∷ 633 ∷
          633 ∷ 633 ∷ 633 ∷ 633 ∷ 633 ∷ 633 ∷ 633 ∷ 633 ∷ 633 ∷ 633 ∷ 633 ∷ 633 ∷ 633 ∷ 633 ∷ 633 ∷ 632 ∷ [];
    }
    ∷ []

-- The paper's own timing: the clocks from 2 on in which what is shown changes, and to what, after a write of A5H in clock 1, the line
-- joined to itself.
unfoldable pub changes : Timing → Serial → ℕ → ℕ → ℕ → List ℕ
changes T s last k zero = []
changes T s last k (suc n) =
    cond (eqb (shown T s) last) [] (k ∷ shown T s ∷ []) ++ changes T (serial_clock T (level T s) others s) (shown T s) (k + 1) n

abbrev pub paper_changes : List ℕ
paper_changes = changes paper_timing (serial_clock paper_timing 1 (writes 165) serial_reset) 5 2 10121

-- busy and low from clock 2; A5H is 1, 0, 1, 0, 0, 1, 0, 1 from its lowest bit; the stop bit is high and merges with its highest; the
-- stop sample is in clock 9,615, seen from the next; free from clock 10,122
abbrev pub paper_expected : List ℕ
paper_expected =
    2 ∷ 0 ∷ 1014 ∷ 1 ∷ 2026 ∷ 0 ∷ 3038 ∷ 1 ∷ 4050 ∷ 0 ∷ 6074 ∷ 1 ∷ 7086 ∷ 0 ∷ 8098 ∷ 1 ∷ 9616 ∷ 1323 ∷ 10122 ∷ 1327 ∷ []

-- Loop-back speaks of something: three writes, each as soon as the transmitter is free, and a read as soon as a byte is there.
abbrev pub echo_timing : Timing
echo_timing = record { period = 3; sample = 2; tick = 7 }

abbrev pub echo : List Access
echo =
    writes 65 ∷ replicate 29 others ++ (reads ∷ writes 90 ∷ replicate 29 others) ++ (reads ∷ writes 7 ∷ replicate 5 others)

-- the same without the first read
abbrev pub missed : List Access
missed =
    writes 65 ∷ replicate 29 others ++ (others ∷ writes 90 ∷ replicate 29 others) ++ (reads ∷ writes 7 ∷ replicate 5 others)

pub record Echoes : Type 0 where
  pub proviso : in_time false (each (marks_at echo_timing) (joined echo_timing serial_reset echo)) ≡ true
  pub accepted : each accepted_at (joined echo_timing serial_reset echo) ≡ 65 ∷ 90 ∷ 7 ∷ []
  pub handed_over : each handed_at (joined echo_timing serial_reset echo) ≡ 65 ∷ 90 ∷ []
  pub line : on_line echo_timing (joined_end echo_timing serial_reset echo) ≡ 7 ∷ []
  pub broken : in_time false (each (marks_at echo_timing) (joined echo_timing serial_reset missed)) ≡ false
  pub lost : each (fate_at echo_timing) (joined echo_timing serial_reset missed) ≡ replaced 65 ∷ handed 90 ∷ []
