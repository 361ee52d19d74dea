-- Proof: the window of a plate with a held dot is told as plates tell theirs. Nothing here needs to be believed.
use Rattle.std.specs.Prelude.{refl}
use Rattle.std.proofs.Common.{arith}
use Rattle.std.proofs.lemmas.Int.{ints}
use Rattle.plate.specs.World.{canonical}
use Rattle.plate.specs.Plates.{Framed}
use Rattle.plate.specs.Windows.{orders_world, inside_orders}
use Rattle.cached.specs.Holding.{frame}

pub Framed-frame : Framed frame
unfolding canonical
Framed-frame = record { told = refl; worldly = λ p h. let i = inside_orders frame p h in orders_world p (omega (arith, ints)) (omega (arith, ints)) }
