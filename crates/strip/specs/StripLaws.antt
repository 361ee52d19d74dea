-- Proofs: a strip keeps the laws of plates. Nothing here needs to be believed.
use Rattle.std.specs.Prelude.{◌≡◌, ℕ, suc, ◌+◌, ◌-◌, ◌<◌, ◌≤◌, min, false, List, [], ◌∷◌, ◌++◌, map, length, take, slice_set, refl}
use Rattle.std.proofs.Common.{sym, ap, subst, ◌∙◌, arith, add-one, length-set, length-append}
use Rattle.std.proofs.lemmas.List.{map-append, take_more_set}
use Rattle.plate.specs.World.{Dot, inside, window_of}
use Rattle.plate.specs.Plates.{Strike, Laws, After, AllIn, struck, lit_after}
use Rattle.plate.specs.Windows.{Framed-window_of}
use Rattle.plate.specs.Bare.{lit_after-append, lit_after_at, AllIn-append, bare_laws}
use Rattle.strip.specs.declared.Record.{Record}
use Rattle.strip.specs.declared.Strip.{Strip}
use Rattle.strip.specs.Strips.{places, kept, record_of, lit_by, strip_meaning, recorded, StripStrikes}

recorded-length : (ks : List Strike) (used : ℕ) (rs : List Record) → length (recorded ks used rs) ≡ length rs
recorded-length [] used rs = refl
recorded-length (k ∷ ks) used rs = recorded-length ks (suc used) (slice_set rs used (record_of k)) ∙ length-set rs used (record_of k)

recorded-append : (xs ys : List Strike) (used : ℕ) (rs : List Record) → recorded ys (used + length xs) (recorded xs used rs) ≡ recorded (xs ++ ys) used rs
recorded-append [] ys used rs = (let e : used + 0 ≡ used = omega arith in ap (λ n. recorded ys n rs) e)
recorded-append (x ∷ xs) ys used rs =
    let e : used + suc (length xs) ≡ suc used + length xs = omega arith in
    let next : List Record = slice_set rs used (record_of x) in
    ap (λ n. recorded ys n (recorded xs (suc used) next)) e ∙ recorded-append xs ys (suc used) next

-- one record more
lit_by_more : (rs : List Record) (used : ℕ) (k : Strike) → used < length rs → (p : Dot) → lit_by (take (suc used) (slice_set rs used (record_of k))) p ≡ struck k (lit_by (take used rs)) p
lit_by_more rs used k h p =
    let e : take (suc used) (slice_set rs used (record_of k)) ≡ take used rs ++ record_of k ∷ [] = ap (λ n. take n (slice_set rs used (record_of k))) (sym (add-one used)) ∙ take_more_set rs used (record_of k) h in
    ap (λ zs. lit_by zs p) e
    ∙ ap (λ zs. lit_after zs (λ q. false) p) (map-append kept (take used rs) (record_of k ∷ []))
    ∙ lit_after-append (map kept (take used rs)) (k ∷ []) (λ q. false) p

recorded_lit : (ks : List Strike) (used : ℕ) (rs : List Record) → used + length ks ≤ length rs → (p : Dot) → lit_by (take (used + length ks) (recorded ks used rs)) p ≡ lit_after ks (lit_by (take used rs)) p
recorded_lit [] used rs h p = (let e : used + 0 ≡ used = omega arith in ap (λ n. lit_by (take n rs) p) e)
recorded_lit (k ∷ ks) used rs h p =
    let e : used + suc (length ks) ≡ suc used + length ks = omega arith in
    let next : List Record = slice_set rs used (record_of k) in
    let l : length next ≡ length rs = length-set rs used (record_of k) in
    let room : suc used + length ks ≤ length next = omega arith in
    let free : used < length rs = omega arith in
    ap (λ n. lit_by (take n (recorded ks (suc used) next)) p) e
    ∙ recorded_lit ks (suc used) next room p
    ∙ lit_after_at ks (lit_by (take (suc used) next)) (struck k (lit_by (take used rs))) p (lit_by_more rs used k free p)

-- within the places that a strip may use, all records have a place in its list
fits_list : (n used len : ℕ) → n ≤ min 65536 len - used → 0 < n → used + n ≤ len
fits_list n used len h o = omega arith

recorded-lit_after : (ks : List Strike) (used : ℕ) (rs : List Record) → length ks ≤ places rs - used → (p : Dot) → lit_by (take (used + length ks) (recorded ks used rs)) p ≡ lit_after ks (lit_by (take used rs)) p
recorded-lit_after [] used rs h p = (let e : used + 0 ≡ used = omega arith in ap (λ n. lit_by (take n rs) p) e)
recorded-lit_after (k ∷ ks) used rs h p = recorded_lit (k ∷ ks) used rs (fits_list (suc (length ks)) used (length rs) h (omega arith)) p

strip_none : (s : Strip) → StripStrikes s [] s
strip_none s = record { lent = refl; bounds = refl; records = refl; used = omega arith; room = omega arith; visible = tt }

strip_join : (s t u : Strip) (xs ys : List Strike) → StripStrikes s xs t → StripStrikes t ys u → StripStrikes s (xs ++ ys) u
strip_join s t u xs ys a b =
    let n = length-append xs ys in
    let l : length t.records.now ≡ length s.records.now = ap length a.records ∙ recorded-length xs s.used s.records.now in
    let at = a.used in
    let bt = b.used in
    let ar = a.room in
    let br = b.room in record {
      lent = b.lent ∙ a.lent;
      bounds = b.bounds ∙ a.bounds;
      records = b.records ∙ ap (recorded ys t.used) a.records ∙ ap (λ k. recorded ys k (recorded xs s.used s.records.now)) a.used ∙ recorded-append xs ys s.used s.records.now;
      used = omega arith;
      room = omega arith;
      visible = AllIn-append (inside (window_of s.bounds)) xs ys a.visible (subst (λ w. AllIn (inside (window_of w)) ys) a.bounds b.visible);
    }

strip_after : (s t : Strip) (xs : List Strike) → StripStrikes s xs t → After xs (strip_meaning s) (strip_meaning t)
strip_after s t xs a =
    let l : length t.records.now ≡ length s.records.now = ap length a.records ∙ recorded-length xs s.used s.records.now in
    let at = a.used in
    let ar = a.room in record {
      window = ap window_of a.bounds;
      lit = λ p h. ap (λ n. lit_by (take n t.records.now) p) a.used ∙ ap (λ rs. lit_by (take (s.used + length xs) rs) p) a.records ∙ recorded-lit_after xs s.used s.records.now a.room p;
      shots = omega arith;
    }

pub strip_laws : Laws (λ s. (strip_meaning s).window) (λ s. (strip_meaning s).lit) (λ s. (strip_meaning s).shots) StripStrikes (λ s. []) strip_meaning
strip_laws = bare_laws (λ s. (strip_meaning s).window) (λ s. (strip_meaning s).lit) (λ s. (strip_meaning s).shots) StripStrikes strip_none strip_join strip_after (λ s. Framed-window_of s.bounds)
