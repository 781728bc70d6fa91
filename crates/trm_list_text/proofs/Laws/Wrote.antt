-- Text appended to a buffer.
-- Idea: up to its new end the buffer holds what it held, followed by the new text.
use Prim.Native.Nat.{ℕ}
use mathlib.Core.Path.{refl, sym, ap, ◌∙◌}
use mathlib.Core.List.{List, [], ◌++◌, append_assoc, append-nil}
use native.Mathlib.Omega.{arith}
use lib.ListN.{take, length-append}
use Rattle.trm_list_text.specs.Wrote.{Wrote}

pub wrote_none : (b : List ℕ) (at : ℕ) → Wrote b at [] b at
wrote_none b at = record { text = sym (append-nil (take at b)); next = omega arith; long = refl }

pub wrote_then : {b b' b'' xs ys : List ℕ} {at r r' : ℕ} → Wrote b at xs b' r → Wrote b' r ys b'' r' → Wrote b at (xs ++ ys) b'' r'
wrote_then {b = b} {xs = xs} {ys = ys} {at = at} f g = record {
  text = g.text ∙ ap (λ t. t ++ ys) f.text ∙ append_assoc (take at b) xs ys;
  next = rw (length-append xs ys) (omega (arith, f.next, g.next));
  long = g.long ∙ f.long;
}
