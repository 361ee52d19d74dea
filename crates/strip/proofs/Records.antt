-- One record after another.
use Rattle.std.proofs.Common.{◌≡◌, ℕ, ◌+◌, ◌<◌, Bool, List, map, length, get_or, drop, sym, ◌∙◌}
use Rattle.std.proofs.lemmas.List.{at_drop_more}
use Rattle.plate.specs.World.{Dot}
use Rattle.plate.specs.Plates.{struck, lit_after}
use Rattle.plate.specs.Bare.{lit_after_at}
use Rattle.strip.specs.declared.Record.{Record}
use Rattle.strip.specs.Strips.{kept}

pub next_record : (records : List Record) (i : ℕ) (d : Record) (lit next : Bool) (p : Dot) → i < length records → next ≡ struck (kept (get_or records i d)) (λ q. lit) p → lit_after (map kept (drop (i + 1) records)) (λ q. next) p ≡ lit_after (map kept (drop i records)) (λ q. lit) p
next_record records i d lit next p h e =
    lit_after_at (map kept (drop (i + 1) records)) (λ q. next) (struck (kept (get_or records i d)) (λ q. lit)) p e
    ∙ sym (at_drop_more (λ zs. lit_after (map kept zs) (λ q. lit) p) records i d h)
