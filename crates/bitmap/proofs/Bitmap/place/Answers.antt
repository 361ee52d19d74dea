use Rattle.std.proofs.Common.{◌≡◌, ◌<◌, length, sym, ap, ◌∙◌, subst, inl, inr}
use Rattle.std.proofs.lemmas.Bool.{cases_Bool}
use Rattle.std.specs.Bool.{then_some}
use Rattle.plate.specs.World.{inside}
use Rattle.bitmap.specs.Bitmaps.{bitmap_meaning, Placed}
use Rattle.bitmap.specs.BitmapLaws.{shown, byte_lt}
use Rattle.bitmap.proofs.Bitmap.place.Goals as goal

pub returns : goal.returns
returns c =
    let s = c.args.self.now in
    let p = c.args.at in
    let n = length s.bytes.now in
    let tells : c.contains.result ≡ inside (bitmap_meaning s).window p = c.contains.ensures ∙ ap (λ w. inside w p) c.shown.ensures in
    elim (cases_Bool c.contains.result) [
      | inl t ↦ subst (λ r. Placed r s p) (sym (c.then_some.ensures ∙ ap (λ b. then_some b c.of.result) t)) (sym tells ∙ t, c.of.ensures.index, subst (λ i. i < n) (sym c.of.ensures.index) (byte_lt s.width s.height n p (shown s.width s.height n p (sym tells ∙ t))), c.of.ensures.shift)
      | inr f ↦ subst (λ r. Placed r s p) (sym (c.then_some.ensures ∙ ap (λ b. then_some b c.of.result) f)) (sym tells ∙ f)
    ]
