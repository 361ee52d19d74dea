-- A bitmap keeps its dots as bits of the caller's bytes.
use Rattle.std.specs.Prelude.{◌≡◌, ℕ, ◌+◌, ◌-◌, ◌*◌, ◌<◌, ◌≤◌, Bool, true, false, cond, ◌&&◌, List, [], ◌∷◌, length, pos, Some, None, Option, nat_le, slice_index, slice_set}
use Rattle.plate.specs.declared.Window.{Window}
use Rattle.plate.specs.World.{Dot, inside, empty}
use Rattle.plate.specs.Plates.{Strike, Meaning, AllIn, meaning}
use Rattle.bitmap.specs.declared.Bitmap.{Bitmap}
use Rattle.bitmap.specs.declared.BitmapRefusal.{BitmapRefusal}
use Rattle.bitmap.specs.declared.places.Place.{Place}
use Rattle.bitmap.specs.Bits.{row_bytes, byte_of, bit_of, bit, inked_byte}
use Rattle.bitmap.specs.declared.BitmapRefusal.TheVariants.{Size}

-- the number by which workshops know a refused size
abbrev pub bitmap_number : BitmapRefusal → ℕ
bitmap_number Size = 3

-- a width or a height within limits
abbrev pub side : ℕ → Bool
side n = nat_le 1 n && nat_le n 8192

-- a size within limits, for which these many bytes are enough
unfoldable pub sized : ℕ → ℕ → ℕ → Bool
sized width height bytes = (side width && side height) && nat_le (height * row_bytes width) bytes

-- the window of a size: no dots where the size is refused
abbrev pub bitmap_window : ℕ → ℕ → ℕ → Window
bitmap_window width height bytes = cond (sized width height bytes) (record { left = pos 0; top = pos 0; right = pos (width - 1); bottom = pos (height - 1) }) empty

-- a dot is lit where its bit is one
abbrev pub bitmap_lit : ℕ → List ℕ → Dot → Bool
bitmap_lit width bytes p = bit (slice_index bytes (byte_of width p)) (bit_of p)

-- what a bitmap means, whatever its fields hold
abbrev pub bitmap_meaning : Bitmap → Meaning
bitmap_meaning s = record {
  window = bitmap_window s.width s.height (length s.bytes.now);
  lit = bitmap_lit s.width s.bytes.now;
  shots = s.shots;
}

-- what a new bitmap means: lit by its bytes as they are; a refused size has no dots, and no shots
abbrev pub new_bitmap : ℕ → ℕ → ℕ → List ℕ → Meaning
new_bitmap width height shots bytes = meaning (bitmap_window width height (length bytes)) (bitmap_lit width bytes) (cond (sized width height (length bytes)) shots 0)

-- the place of a dot of the window, and none outside it
abbrev pub Placed : Option Place → Bitmap → Dot → Type 0
Placed (Some at) s p = (inside (bitmap_meaning s).window p ≡ true) × (at.index ≡ byte_of s.width p) × (at.index < length s.bytes.now) × (at.shift ≡ bit_of p)
Placed None s p = inside (bitmap_meaning s).window p ≡ false

-- the bytes after one strike, which inks one bit
abbrev pub burn : ℕ → Strike → List ℕ → List ℕ
burn width k bytes = slice_set bytes (byte_of width k.0) (inked_byte k.1 (slice_index bytes (byte_of width k.0)) (bit_of k.0))

-- the bytes after strikes in order
abbrev pub burnt : ℕ → List Strike → List ℕ → List ℕ
burnt width [] bytes = bytes
burnt width (k ∷ ks) bytes = burnt width ks (burn width k bytes)

-- a bitmap's history: t is on the bytes of s, with these strikes' bits inked in order and nothing else changed
pub record BitmapStrikes (s : Bitmap) (ks : List Strike) (t : Bitmap) : Type 0 where
  pub lent : t.bytes.ghost_name ≡ s.bytes.ghost_name
  pub width : t.width ≡ s.width
  pub height : t.height ≡ s.height
  pub bytes : t.bytes.now ≡ burnt s.width ks s.bytes.now
  pub shots : s.shots ≡ length ks + t.shots
  pub visible : AllIn (inside (bitmap_window s.width s.height (length s.bytes.now))) ks

-- what no strike reaches: the bytes past the last row, and in each row the bits right of the last dot, as far as the row's bytes go
pub record SparesKept (s t : Bitmap) : Type 0 where
  pub past : (i : ℕ) → s.height * row_bytes s.width ≤ i → slice_index t.bytes.now i ≡ slice_index s.bytes.now i
  pub spare : (x y : ℕ) → s.width ≤ x → x < 8 * row_bytes s.width → bitmap_lit s.width t.bytes.now (pos x, pos y) ≡ bitmap_lit s.width s.bytes.now (pos x, pos y)

-- they stay as they are, whatever strikes follow
abbrev pub SparesStay : Bitmap → Type 0
SparesStay s = (ks : List Strike) (t : Bitmap) → BitmapStrikes s ks t → SparesKept s t
