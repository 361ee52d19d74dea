use Rattle.std.proofs.Common.{sym, arith}
use Rattle.bitmap.specs.BitmapLaws.{sized-Limits}
use Rattle.bitmap.proofs.Bitmap.shown.Goals as goal

pub last-requires : goal.last-requires
last-requires c = omega (arith, sized-Limits _ _ _ (sym c.if-is_sized.ensures))

pub last-requires-then-is_sized : goal.last-requires-then-is_sized
last-requires-then-is_sized c = omega (arith, sized-Limits _ _ _ (sym c.if-is_sized.ensures))
