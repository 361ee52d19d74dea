-- What masks do to a byte, by one computed test over all bytes and bits.
use Rattle.std.proofs.Common.{◌≡◌, ℕ, zero, suc, ◌-◌, ◌*◌, ◌%◌, ◌^◌, ◌<◌, Bool, true, ◌&&◌, eqb, Decides, refl}
use lib.Bits.{bit_and, bit_or, bit_xor}
use Rattle.std.proofs.lemmas.Bool.Decides.{Decides-eqb, Decides-and, Decides-below_and}
use Rattle.plate.specs.declared.Ink.TheVariants.{Light, Clear, Flip}
use Rattle.bitmap.specs.Bits.{bit, inked_byte}

-- the mask with bit k alone, as the code makes it
abbrev pub mask : ℕ → ℕ
mask k = 1 * 2 ^ k % 256

abbrev pub Masked : ℕ → ℕ → Type 0
Masked byte k = ((bit_or byte (mask k) ≡ inked_byte Light byte k) × (bit_and byte (255 - mask k) ≡ inked_byte Clear byte k)) × (bit_xor byte (mask k) ≡ inked_byte Flip byte k)

abbrev test : ℕ → ℕ → Bool
test byte k = (eqb (bit_or byte (mask k)) (inked_byte Light byte k) && eqb (bit_and byte (255 - mask k)) (inked_byte Clear byte k)) && eqb (bit_xor byte (mask k)) (inked_byte Flip byte k)

abbrev bits : ℕ → ℕ → Bool
bits byte zero = true
bits byte (suc k) = test byte k && bits byte k

abbrev bytes : ℕ → Bool
bytes zero = true
bytes (suc byte) = bits byte 8 && bytes byte

all_pass : bytes 256 ≡ true
unfolding bit inked_byte
all_pass = refl

Masked-Decides : (byte k : ℕ) → Decides (test byte k) (Masked byte k)
Masked-Decides byte k = Decides-and _ _ (Decides-and _ _ (Decides-eqb _ _) (Decides-eqb _ _)) (Decides-eqb _ _)

bits_decide : (byte n : ℕ) → Decides (bits byte n) ((k : ℕ) → k < n → Masked byte k)
bits_decide byte n = Decides-below_and (test byte) (Masked byte) (bits byte) (Masked-Decides byte) refl (λ _. refl) n

pub masked : (byte k : ℕ) → byte < 256 → k < 8 → Masked byte k
masked byte k h l = (Decides-below_and (λ b. bits b 8) (λ b. (j : ℕ) → j < 8 → Masked b j) bytes (λ b. bits_decide b 8) refl (λ _. refl) 256).0 all_pass byte h k l
