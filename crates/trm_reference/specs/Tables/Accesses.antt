-- Table: LD and ST access the right address and no other memory word, in the right clock, with the right answer; an accepted reset.
-- Paper: "12 LD and 13 ST", "changes only in an instruction's last clock", "a byte .. and the word moved", "an accepted reset gives".
use Rattle.std.specs.Prelude.{ℕ, List, [], ◌∷◌, ◌++◌, replicate}
use Rattle.trm_reference.specs.Visible.{Visible, register}
use Rattle.trm_reference.specs.Access.{address_of, Answer, answer_of}
use Rattle.trm_reference.specs.Reference.{Reference, reference_reset}
use Rattle.trm_reference.specs.Tables.{Row, row, literal_word, load_word, store_word, holding, seen, machine, state_after, quiet}
use Rattle.trm_reference.specs.Tables.{changed_from, rest_of}

-- byte, word and `done` of the answer; the input word is 7
unfoldable pub answered_to : ℕ → Visible → List ℕ
answered_to w v = let a : Answer = answer_of w v 256 7 in a.byte ∷ a.word ∷ a.done ∷ []

-- the same with R1 FFC0H, the address of device 0, and R2 77H
abbrev pub answered : ℕ → List ℕ
answered w = answered_to w (holding 0xFFC0 0x77 0)

-- a visible state in mode 1: R1 FFC0H, R2 88H and R7 40H of bank 1, the bank in use; R2 77H of bank 0; the status is 4, or 12 with
-- the cache on
abbrev pub in_mode1 : ℕ → Visible
in_mode1 status =
    record {
      pc = 0;
      regs = 0 ∷ 0 ∷ 0x77 ∷ 0 ∷ 0 ∷ 0 ∷ 0 ∷ 0 ∷ 0 ∷ 0xFFC0 ∷ 0x88 ∷ 0 ∷ 0 ∷ 0 ∷ 0 ∷ 0x40 ∷ [];
      h = 0;
      n = 0;
      z = 0;
      c = 0;
      v = 0;
      status = status;
    }

-- R3 after n clocks, then each changed word of memory by its index and its value
unfoldable pub kept : List ℕ → Reference → ℕ → List ℕ
kept p q n =
    let u : Reference = state_after p q (quiet n) in register u.visible 3 ∷ changed_from 0 q.memory u.memory

-- 256 words that are all 9; R1 and the status are given, R2 is 77H
abbrev pub nines : ℕ → ℕ → Reference
nines r1 status = machine (holding r1 0x77 status) 256 []

unfoldable pub accesses : List Row
accesses =
    -- "address = (base + bits 10–3) mod 65,536. The base is R.s, but zero for s = 7": R1, bank 1's R1, R6, R7, bank 1's R7
    row (address_of (load_word 3 1 255) (seen 0 0 0 0 0 0) ∷ []) (0x200 ∷ [])
    ∷ row (address_of (store_word 3 1 4) (seen 0 0 0 0 0 4) ∷ []) (0x10D ∷ [])
    ∷ row (address_of (store_word 3 6 4) (seen 0 0 0 0 0 0) ∷ []) (0x1003 ∷ [])
    ∷ row (address_of (load_word 3 7 4) (seen 0 0 0 0 0 0) ∷ []) (4 ∷ [])
    ∷ row (address_of (load_word 3 7 4) (seen 0 0 0 0 0 4) ∷ []) (4 ∷ [])
    -- ST changes one word of memory, LD none, and "only in an instruction's last clock": the cache off, then on
    ∷ row (kept (store_word 2 7 5 ∷ []) (nines 0 0) 4) (0 ∷ [])
    ∷ row (kept (store_word 2 7 5 ∷ []) (nines 0 0) 5) (0 ∷ 5 ∷ 0x77 ∷ [])
    ∷ row (kept (load_word 3 7 5 ∷ []) (nines 0 0) 5) (0 ∷ [])
    ∷ row (kept (load_word 3 7 5 ∷ []) (nines 0 0) 6) (9 ∷ [])
    ∷ row (kept (store_word 2 7 5 ∷ []) (nines 0 8) 11) (0 ∷ [])
    ∷ row (kept (store_word 2 7 5 ∷ []) (nines 0 8) 12) (0 ∷ 5 ∷ 0x77 ∷ [])
    -- LD of the word stored to and of the one before it, the cache off, then on
    ∷ row (kept (store_word 2 7 5 ∷ load_word 3 7 5 ∷ []) (nines 0 0) 11) (0x77 ∷ 5 ∷ 0x77 ∷ [])
    ∷ row (kept (store_word 2 7 5 ∷ load_word 3 7 4 ∷ []) (nines 0 0) 11) (9 ∷ 5 ∷ 0x77 ∷ [])
    ∷ row (kept (store_word 2 7 5 ∷ load_word 3 7 5 ∷ []) (nines 0 8) 14) (0x77 ∷ 5 ∷ 0x77 ∷ [])
    -- "2 is the mode and selects the bank": in mode 1 ST stores bank 1's R2, the cache off, then on, with zero as the base for s = 7
    ∷ row (kept (store_word 2 7 5 ∷ []) (machine (in_mode1 4) 256 []) 5) (0 ∷ 5 ∷ 0x88 ∷ [])
    ∷ row (kept (store_word 2 7 5 ∷ []) (machine (in_mode1 12) 256 []) 12) (0 ∷ 5 ∷ 0x88 ∷ [])
    -- "any other address is taken mod the store's length": 105H is word 5 of 256; "devices": the input word, and no word of memory
    ∷ row (kept (store_word 2 1 0 ∷ []) (nines 0x105 0) 5) (0 ∷ 5 ∷ 0x77 ∷ [])
    ∷ row (kept (store_word 2 7 5 ∷ load_word 3 1 0 ∷ []) (nines 0x105 0) 11) (0x77 ∷ 5 ∷ 0x77 ∷ [])
    ∷ row (kept (store_word 2 1 0 ∷ []) (nines 0xFFC0 0) 1) (0 ∷ [])
    ∷ row (kept (load_word 3 1 0 ∷ []) (nines 0xFFC0 0) 2) (7 ∷ [])
    -- "an accepted reset gives zeros, the store's words and no history"
    ∷ row (rest_of (reference_reset (5 ∷ 6 ∷ []))) (replicate 27 0 ++ (5 ∷ 6 ∷ []))
    ∷ row ((reference_reset (5 ∷ 6 ∷ [])).clocks ∷ (reference_reset (5 ∷ 6 ∷ [])).held ∷ []) (0 ∷ 0 ∷ [])
    -- "a byte (bit 0 read, bit 1 write, bits 2–7 device) and the word moved, both zero without an access": LD from device 5,
    -- ST of R2 to device 63, the same in mode 1 with bank 1, LD and ST of memory, MOV of 1, whose low bits are those of an LD from
    -- device 0
    ∷ row (answered (load_word 3 1 5)) (21 ∷ 7 ∷ 1 ∷ [])
    ∷ row (answered (store_word 2 1 63)) (254 ∷ 0x77 ∷ 1 ∷ [])
    ∷ row (answered_to (store_word 2 1 63) (in_mode1 4)) (254 ∷ 0x88 ∷ 1 ∷ [])
    ∷ row (answered (load_word 3 7 5)) (0 ∷ 0 ∷ 1 ∷ [])
    ∷ row (answered (store_word 2 7 5)) (0 ∷ 0 ∷ 1 ∷ [])
    ∷ row (answered (literal_word 0 3 1)) (0 ∷ 0 ∷ 1 ∷ [])
    ∷ []
