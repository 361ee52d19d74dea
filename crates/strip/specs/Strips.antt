-- A strip keeps its strikes in order, as records.
use Rattle.std.specs.Prelude.{◌≡◌, ℕ, suc, ◌+◌, ◌-◌, ◌≤◌, min, Bool, false, List, [], ◌∷◌, map, length, take, slice_set}
use Rattle.plate.specs.World.{Dot, inside, window_of}
use Rattle.plate.specs.Plates.{Strike, Meaning, lit_after, AllIn}
use Rattle.strip.specs.declared.Record.{Record}
use Rattle.strip.specs.declared.Strip.{Strip}

-- the places that a strip may use: the first 65,536 of its list
abbrev pub places : List Record → ℕ
places records = min 65536 (length records)

-- the strike that a record keeps, and the record that keeps a strike
abbrev pub kept : Record → Strike
kept r = (r.at, r.ink)

abbrev pub record_of : Strike → Record
record_of k = record { at = k.0; ink = k.1 }

-- a dot starts unlit, and is as its records in order leave it
abbrev pub lit_by : List Record → Dot → Bool
lit_by records p = lit_after (map kept records) (λ q. false) p

-- what a strip means: its window is the one that its bounds make, and the shots left are the unused places
abbrev pub strip_meaning : Strip → Meaning
strip_meaning s = record {
  window = window_of s.bounds;
  lit = lit_by (take s.used s.records.now);
  shots = places s.records.now - s.used;
}

-- the list with these strikes' records written from the place `used` on
abbrev pub recorded : List Strike → ℕ → List Record → List Record
recorded [] used records = records
recorded (k ∷ ks) used records = recorded ks (suc used) (slice_set records used (record_of k))

-- a strip's history: t keeps the records of s, on the same list, and then these
pub record StripStrikes (s : Strip) (ks : List Strike) (t : Strip) : Type 0 where
  pub lent : t.records.ghost_name ≡ s.records.ghost_name
  pub bounds : t.bounds ≡ s.bounds
  pub records : t.records.now ≡ recorded ks s.used s.records.now
  pub used : t.used ≡ s.used + length ks
  pub room : length ks ≤ places s.records.now - s.used
  pub visible : AllIn (inside (window_of s.bounds)) ks
