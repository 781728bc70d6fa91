-- A table of images and their listings, computed by the checker.
-- Paper: the example of "Images and the listing program", byte for byte; the other rows were worked out by hand from the clock table.
-- The comment above the bytes of each row of a listing is its text.
use Prim.{Unit}
use Rattle.std.specs.Prelude.{ℕ, ◌≡◌, List, [], ◌∷◌, ◌++◌}
use Rattle.trm_listing.specs.Listing.{output_of}

pub record Example : Type 0 where
  pub image : List ℕ
  pub listing : List ℕ

-- the paper's example
unfoldable pub paper_example : Example
paper_example =
    record {
      image =
          (0x0C ∷ 0x00 ∷ 0x00 ∷ 0x00 ∷ 0x01 ∷ 0x00 ∷ 0x05 ∷ 0x00 ∷ 0x00 ∷ 0x00 ∷ 0x03 ∷ 0x00 ∷ 0x02 ∷ 0x00 ∷ 0xFF ∷ 0xBB ∷ 0x03
          ∷ 0x00 ∷ [])
          ++ (0x09 ∷ 0x00 ∷ 0x00 ∷ 0x00 ∷ 0x03 ∷ 0x00 ∷ 0x28 ∷ 0x00 ∷ 0x00 ∷ 0x00 ∷ 0x00 ∷ 0x00 ∷ 0x00 ∷ 0x00 ∷ 0x00 ∷ []);
      listing =
          -- clock at word took
          (99 ∷ 108 ∷ 111 ∷ 99 ∷ 107 ∷ 32 ∷ 97 ∷ 116 ∷ 32 ∷ 119 ∷ 111 ∷ 114 ∷ 100 ∷ 32 ∷ 116 ∷ 111 ∷ 111 ∷ 107 ∷ 10 ∷ [])
          -- 1 000 00005 1
          ++ (49 ∷ 32 ∷ 48 ∷ 48 ∷ 48 ∷ 32 ∷ 48 ∷ 48 ∷ 48 ∷ 48 ∷ 53 ∷ 32 ∷ 49 ∷ 10 ∷ [])
          -- 34 001 20003 33
          ++ (51 ∷ 52 ∷ 32 ∷ 48 ∷ 48 ∷ 49 ∷ 32 ∷ 50 ∷ 48 ∷ 48 ∷ 48 ∷ 51 ∷ 32 ∷ 51 ∷ 51 ∷ 10 ∷ [])
          -- 36 002 3BBFF 2
          ++ (51 ∷ 54 ∷ 32 ∷ 48 ∷ 48 ∷ 50 ∷ 32 ∷ 51 ∷ 66 ∷ 66 ∷ 70 ∷ 70 ∷ 32 ∷ 50 ∷ 10 ∷ [])
          -- 38 002 3BBFF 2
          ++ (51 ∷ 56 ∷ 32 ∷ 48 ∷ 48 ∷ 50 ∷ 32 ∷ 51 ∷ 66 ∷ 66 ∷ 70 ∷ 70 ∷ 32 ∷ 50 ∷ 10 ∷ [])
          -- 40 002 3BBFF 2
          ++ (52 ∷ 48 ∷ 32 ∷ 48 ∷ 48 ∷ 50 ∷ 32 ∷ 51 ∷ 66 ∷ 66 ∷ 70 ∷ 70 ∷ 32 ∷ 50 ∷ 10 ∷ [])
          -- end 40 held 0 refills 0 writebacks 0
          ++ (101 ∷ 110 ∷ 100 ∷ 32 ∷ 52 ∷ 48 ∷ 32 ∷ 104 ∷ 101 ∷ 108 ∷ 100 ∷ 32 ∷ 48 ∷ 32 ∷ 114 ∷ 101 ∷ 102 ∷ 105 ∷ 108 ∷ 108 ∷ 115
          ∷ 32 ∷ 48 ∷ 32 ∷ 119 ∷ 114 ∷ 105 ∷ 116 ∷ 101 ∷ 98 ∷ 97 ∷ 99 ∷ 107 ∷ 115 ∷ 32 ∷ 48 ∷ 10 ∷ []);
    }

-- both interrupts enabled; three held clocks and one more with interrupt line 1 high; two held clocks; one clock
unfoldable pub interrupt_example : Example
interrupt_example =
    record {
      image =
          (0x04 ∷ 0x00 ∷ 0x00 ∷ 0x00 ∷ 0x01 ∷ 0x00 ∷ 0x03 ∷ 0xC0 ∷ 0x02 ∷ 0x00 ∷ [])
          ++ (0x09 ∷ 0x00 ∷ 0x00 ∷ 0x00 ∷ 0x03 ∷ 0x00 ∷ 0x01 ∷ 0x00 ∷ 0x00 ∷ 0x00 ∷ 0x00 ∷ 0x00 ∷ 0x00 ∷ 0x00 ∷ 0x00 ∷ [])
          ++ (0x09 ∷ 0x00 ∷ 0x00 ∷ 0x00 ∷ 0x03 ∷ 0x00 ∷ 0x03 ∷ 0x00 ∷ 0x00 ∷ 0x00 ∷ 0x06 ∷ 0x00 ∷ 0x00 ∷ 0x00 ∷ 0x00 ∷ [])
          ++ (0x09 ∷ 0x00 ∷ 0x00 ∷ 0x00 ∷ 0x03 ∷ 0x00 ∷ 0x01 ∷ 0x00 ∷ 0x00 ∷ 0x00 ∷ 0x02 ∷ 0x00 ∷ 0x00 ∷ 0x00 ∷ 0x00 ∷ [])
          ++ (0x09 ∷ 0x00 ∷ 0x00 ∷ 0x00 ∷ 0x03 ∷ 0x00 ∷ 0x02 ∷ 0x00 ∷ 0x00 ∷ 0x00 ∷ 0x04 ∷ 0x00 ∷ 0x00 ∷ 0x00 ∷ 0x00 ∷ [])
          ++ (0x09 ∷ 0x00 ∷ 0x00 ∷ 0x00 ∷ 0x03 ∷ 0x00 ∷ 0x01 ∷ 0x00 ∷ 0x00 ∷ 0x00 ∷ 0x00 ∷ 0x00 ∷ 0x00 ∷ 0x00 ∷ 0x00 ∷ []);
      listing =
          -- clock at word took
          (99 ∷ 108 ∷ 111 ∷ 99 ∷ 107 ∷ 32 ∷ 97 ∷ 116 ∷ 32 ∷ 119 ∷ 111 ∷ 114 ∷ 100 ∷ 32 ∷ 116 ∷ 111 ∷ 111 ∷ 107 ∷ 10 ∷ [])
          -- 1 000 2C003 1
          ++ (49 ∷ 32 ∷ 48 ∷ 48 ∷ 48 ∷ 32 ∷ 50 ∷ 67 ∷ 48 ∷ 48 ∷ 51 ∷ 32 ∷ 49 ∷ 10 ∷ [])
          -- 5 001 irq1 1
          ++ (53 ∷ 32 ∷ 48 ∷ 48 ∷ 49 ∷ 32 ∷ 105 ∷ 114 ∷ 113 ∷ 49 ∷ 32 ∷ 49 ∷ 10 ∷ [])
          -- 8 003 3BC00 1
          ++ (56 ∷ 32 ∷ 48 ∷ 48 ∷ 51 ∷ 32 ∷ 51 ∷ 66 ∷ 67 ∷ 48 ∷ 48 ∷ 32 ∷ 49 ∷ 10 ∷ [])
          -- end 8 held 5 refills 0 writebacks 0
          ++ (101 ∷ 110 ∷ 100 ∷ 32 ∷ 56 ∷ 32 ∷ 104 ∷ 101 ∷ 108 ∷ 100 ∷ 32 ∷ 53 ∷ 32 ∷ 114 ∷ 101 ∷ 102 ∷ 105 ∷ 108 ∷ 108 ∷ 115 ∷ 32
          ∷ 48 ∷ 32 ∷ 119 ∷ 114 ∷ 105 ∷ 116 ∷ 101 ∷ 98 ∷ 97 ∷ 99 ∷ 107 ∷ 115 ∷ 32 ∷ 48 ∷ 10 ∷ []);
    }

-- the cache is turned on; ST to 0, LD from 128, ST to 128; the cache is turned off; a MUL that does not finish
unfoldable pub cache_example : Example
cache_example =
    record {
      image =
          (0x18 ∷ 0x00 ∷ 0x00 ∷ 0x00 ∷ 0x01 ∷ 0x00 ∷ 0x08 ∷ 0xC0 ∷ 0x02 ∷ 0x00 ∷ 0x07 ∷ 0x40 ∷ 0x03 ∷ 0x00 ∷ 0x07 ∷ 0x0C ∷ 0x03
          ∷ 0x00 ∷ 0x07 ∷ 0x44 ∷ 0x03 ∷ 0x00 ∷ 0x00 ∷ 0xC0 ∷ 0x02 ∷ 0x00 ∷ 0x00 ∷ 0x00 ∷ 0x02 ∷ 0x00 ∷ [])
          ++ (0x04 ∷ 0x00 ∷ 0x00 ∷ 0x00 ∷ 0x02 ∷ 0x00 ∷ 0x07 ∷ 0x00 ∷ 0x00 ∷ 0x00 ∷ [])
          ++ (0x09 ∷ 0x00 ∷ 0x00 ∷ 0x00 ∷ 0x03 ∷ 0x00 ∷ 0x32 ∷ 0x00 ∷ 0x00 ∷ 0x00 ∷ 0x00 ∷ 0x00 ∷ 0x00 ∷ 0x00 ∷ 0x00 ∷ []);
      listing =
          -- clock at word took
          (99 ∷ 108 ∷ 111 ∷ 99 ∷ 107 ∷ 32 ∷ 97 ∷ 116 ∷ 32 ∷ 119 ∷ 111 ∷ 114 ∷ 100 ∷ 32 ∷ 116 ∷ 111 ∷ 111 ∷ 107 ∷ 10 ∷ [])
          -- 1 000 2C008 1
          ++ (49 ∷ 32 ∷ 48 ∷ 48 ∷ 48 ∷ 32 ∷ 50 ∷ 67 ∷ 48 ∷ 48 ∷ 56 ∷ 32 ∷ 49 ∷ 10 ∷ [])
          -- 13 001 34007 12
          ++ (49 ∷ 51 ∷ 32 ∷ 48 ∷ 48 ∷ 49 ∷ 32 ∷ 51 ∷ 52 ∷ 48 ∷ 48 ∷ 55 ∷ 32 ∷ 49 ∷ 50 ∷ 10 ∷ [])
          -- 35 002 30C07 22
          ++ (51 ∷ 53 ∷ 32 ∷ 48 ∷ 48 ∷ 50 ∷ 32 ∷ 51 ∷ 48 ∷ 67 ∷ 48 ∷ 55 ∷ 32 ∷ 50 ∷ 50 ∷ 10 ∷ [])
          -- 36 003 34407 1
          ++ (51 ∷ 54 ∷ 32 ∷ 48 ∷ 48 ∷ 51 ∷ 32 ∷ 51 ∷ 52 ∷ 52 ∷ 48 ∷ 55 ∷ 32 ∷ 49 ∷ 10 ∷ [])
          -- 47 004 2C000 11
          ++ (52 ∷ 55 ∷ 32 ∷ 48 ∷ 48 ∷ 52 ∷ 32 ∷ 50 ∷ 67 ∷ 48 ∷ 48 ∷ 48 ∷ 32 ∷ 49 ∷ 49 ∷ 10 ∷ [])
          -- end 50 held 0 refills 2 writebacks 2
          ++ (101 ∷ 110 ∷ 100 ∷ 32 ∷ 53 ∷ 48 ∷ 32 ∷ 104 ∷ 101 ∷ 108 ∷ 100 ∷ 32 ∷ 48 ∷ 32 ∷ 114 ∷ 101 ∷ 102 ∷ 105 ∷ 108 ∷ 108 ∷ 115
          ∷ 32 ∷ 50 ∷ 32 ∷ 119 ∷ 114 ∷ 105 ∷ 116 ∷ 101 ∷ 98 ∷ 97 ∷ 99 ∷ 107 ∷ 115 ∷ 32 ∷ 50 ∷ 10 ∷ []);
    }

-- a run of 0 clocks
unfoldable pub refused_example : Example
refused_example =
    record {
      image =
          (0x04 ∷ 0x00 ∷ 0x00 ∷ 0x00 ∷ 0x01 ∷ 0x00 ∷ 0x05 ∷ 0x00 ∷ 0x00 ∷ 0x00 ∷ [])
          ++ (0x09 ∷ 0x00 ∷ 0x00 ∷ 0x00 ∷ 0x03 ∷ 0x00 ∷ 0x00 ∷ 0x00 ∷ 0x00 ∷ 0x00 ∷ 0x00 ∷ 0x00 ∷ 0x00 ∷ 0x00 ∷ 0x00 ∷ []);
      listing =
          -- refused 1 10
          (114 ∷ 101 ∷ 102 ∷ 117 ∷ 115 ∷ 101 ∷ 100 ∷ 32 ∷ 49 ∷ 32 ∷ 49 ∷ 48 ∷ 10 ∷ []);
    }

unfoldable pub examples : List Example
examples = paper_example ∷ interrupt_example ∷ cache_example ∷ refused_example ∷ []

unfoldable pub AllListed : List Example → Type 0
AllListed [] = Unit {0}
AllListed (e ∷ es) = (output_of e.image ≡ e.listing) × AllListed es

abbrev pub ExamplesHold : Type 0
ExamplesHold = AllListed examples
