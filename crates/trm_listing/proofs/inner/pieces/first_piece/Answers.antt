-- By cases of whether the image is refused.
use Prim.Native.Nat.{◌/◌}
use mathlib.Core.Path.{◌≡◌, refl, sym, ap, ◌∙◌}
use mathlib.Core.Bool.{false}
use native.Mathlib.Omega.{arith}
use lib.Dec.{eqb}
use Rattle.trm_laws.proofs.Tests.{clash}
use Rattle.trm_image.specs.Refused.{image_fault}
use Rattle.trm_image.specs.Numbers.{number_of}
use Rattle.trm_image.proofs.Laws.Numbers.{number_of-some}
use Rattle.trm_image.proofs.Laws.Accepted.{accepted-head}
use Rattle.trm_listing.specs.Rest.{pins_left}
use Rattle.trm_listing.specs.Pieces.{rest_of}
use Rattle.trm_listing.proofs.Laws.Whole.{output-refused, program_is, program-array, program-whole}
use Rattle.trm_listing.proofs.Laws.Whole.{part-long, program-read, taken, output-begun, begun-stands}
use Rattle.trm_listing.proofs.inner.pieces.first_piece.Goals as goal

pub returns-in-Err : goal.returns-in-Err
unfolding rest_of pins_left
returns-in-Err c =
    let e = c.in-Err.ensures in
    let is : c.from-number.result ≡ number_of c.in-Err.refusal.fault = c.from-number.ensures ∙ c.from.ensures in
    let bad = ap (λ k. eqb k 0) is ∙ number_of-some c.in-Err.refusal.fault in
    let refused : eqb (image_fault 2048 c.args.image.now).number 0 ≡ false = ap (λ k. eqb k 0) (sym e.number)
    ∙ number_of-some c.in-Err.refusal.fault in
    record {
      text = output-refused _ _ _ _ _ _ (is ∙ e.number) e.at bad c.put_refused-len.ensures.0;
      ready = λ z. clash (sym z);
      fits = omega (
        arith,
        c.put_refused-len.ensures.1,
        c.put_refused-len.ensures.0.long,
        c.requires.2,
      );
      words = omega arith;
      program_is = rw refused;
      store_is = rw refused;
      programmed = c.requires.0;
      stored = c.requires.1;
      long = c.put_refused-len.ensures.0.long;
    }

pub part_at-payload-requires : goal.part_at-payload-requires
part_at-payload-requires c =
    let ok : (image_fault 2048 c.args.image.now).number ≡ 0 = sym c.in_default.ensures.number in
    (accepted-head 2048 _ ok).whole

pub load_words-requires : goal.load_words-requires
load_words-requires c =
    let ok : (image_fault 2048 c.args.image.now).number ≡ 0 = sym c.in_default.ensures.number in
    let l = part-long _ ok _ c.part_at-payload.ensures in
    (omega arith, omega (arith, l, (accepted-head 2048 _ ok).long, c.requires.0), omega (arith, c.requires.0))

pub returns : goal.returns
unfolding rest_of pins_left
returns c =
    let image = c.args.image.now in
    let ok : (image_fault 2048 image).number ≡ 0 = sym c.in_default.ensures.number in
    let part = c.part_at-payload.ensures in
    let l = part-long image ok _ part in
    let n = ap (λ k. k / 4) l in
    let read = program-read image ok _ part _ _ c.requires.0 c.load_words.ensures in
    let is = program_is image ok _ _ n read in
    let ld = c.load_store-at.ensures in
    let program-long = program-whole image ok _ _ n read in
    let h = accepted-head 2048 _ ok in
    record {
      text = output-begun _ ok _ is _ _ c.zero_record-machine.ensures _ ld 0 0 0 refl _ _ _
          c.put_header-len.ensures.0;
      ready = λ _. begun-stands _ ok _ is _ _ c.zero_record-machine.ensures _ ld ld.long;
      fits = omega (arith, c.put_header-len.ensures.1, c.put_header-len.ensures.0.long, c.requires.2);
      words = omega (arith, l, h.long, program-long);
      program_is = program-array image ok _ _ _ n read;
      store_is = taken _ _ _ _ ok ld.store;
      programmed = program-long;
      stored = ld.long;
      long = c.put_header-len.ensures.0.long;
    }
