-- What a read or a write that fails in the middle leaves. Contracts use this.
use Rattle.std.specs.Prelude.{ℕ, List, take}
use Rattle.std.specs.declared.option.Option.{Option}
use Rattle.std.specs.Io.KnownBytes.{Appends, Consumes}

-- known bytes grow by the first n of bs, for some n
abbrev pub AppendsFirst : Option (List ℕ) → Option (List ℕ) → List ℕ → Type 0
AppendsFirst old new bs = (n : ℕ) × Appends old new (take n bs)

-- known bytes lose their first n, which are the first of bs, for some n
abbrev pub ConsumesFirst : Option (List ℕ) → Option (List ℕ) → List ℕ → Type 0
ConsumesFirst old new bs = (n : ℕ) × Consumes old new (take n bs)
