-- Texts written one after another.
use Rattle.std.proofs.Common.{◌≡◌, ℕ, suc, ◌+◌, ◌-◌, ◌<◌, ◌≤◌, true, leb, List, [], ◌∷◌, ◌++◌, length, get_or, take, drop, set, map, sym, refl, ap, ◌∙◌, add-zero, zero-add, arith, length-append, Ok, Err, Bor}
use borrow.Rule.Slice.PartMut.{put_mid}
use lib.Seq.{sets, sets-eq}
use Rattle.std.specs.List.{concat}
use Rattle.std.proofs.lemmas.List.{append_assoc, drop-drop, at_drop_more, at_drop_all}
use Rattle.std.proofs.lemmas.Bool.{leb-true, cond-true}
use Rattle.report.specs.Lines.{line_answer, written}

pub sets-append : (vs ws l : List ℕ) (i : ℕ) → sets l i (vs ++ ws) ≡ sets (sets l i vs) (i + length vs) ws
sets-append [] ws l i = ap (λ k. sets l k ws) (sym (add-zero i))
sets-append (v ∷ vs) ws l i = sets-append vs ws (set l i v) (suc i) ∙ ap (λ k. sets (sets (set l i v) (suc i) vs) k ws) (omega arith)

-- a text copied into its place
pub sets_copied : (l vs ws : List ℕ) (at : ℕ) → at + length vs ≤ length l → ws ≡ vs → put_mid at (at + length vs - at) l ws ≡ sets l at vs
sets_copied l vs ws at h e =
    let k : at + length vs - at ≡ length vs = omega arith in
    let d = drop-drop (length vs) at l in
    let p = append_assoc (take at l) vs (drop (at + length vs) l) in
    let q = sets-eq vs l at h in
    cc

-- a line that fits, written from the start on
pub whole_answer : (line bytes : List ℕ) (n : ℕ) → leb (length line) (length bytes) ≡ true → n ≡ length line → Ok n ≡ line_answer line bytes
whole_answer line bytes n t e = ap Ok e ∙ sym (cond-true (leb (length line) (length bytes)) (Ok (length line)) (Err 11) t)

pub whole_line : (line bytes : List ℕ) → leb (length line) (length bytes) ≡ true → sets bytes 0 line ≡ written line bytes
whole_line line bytes t =
    let h = leb-true (length line) (length bytes) t in
    sets-eq line bytes 0 (omega arith)
    ∙ ap (λ k. line ++ drop k bytes) (zero-add (length line))
    ∙ sym (cond-true (leb (length line) (length bytes)) (line ++ drop (length line) bytes) bytes t)

-- a piece is a text
abbrev pub said_all : List (Bor (List ℕ)) → List ℕ
said_all pieces = concat (map (λ p. p.now) pieces)

-- the pieces from one on are that piece, which is n bytes or is written from `at` to r, and those after it
pub length-said : (ps : List (Bor (List ℕ))) (i : ℕ) (p : Bor (List ℕ)) (n : ℕ) → i < length ps → n ≡ length (get_or ps i p).now → length (said_all (drop i ps)) ≡ n + length (said_all (drop (i + 1) ps))
length-said ps i p n h e = ap length (at_drop_more said_all ps i p h) ∙ length-append (get_or ps i p).now (said_all (drop (i + 1) ps)) ∙ ap (λ k. k + length (said_all (drop (i + 1) ps))) (sym e)

pub length_unsaid : (ps : List (Bor (List ℕ))) (i : ℕ) → length ps ≤ i → length (said_all (drop i ps)) ≡ 0
length_unsaid ps i h = ap length (at_drop_all said_all ps i h)

pub room_said : (ps : List (Bor (List ℕ))) (i : ℕ) (p : Bor (List ℕ)) (at n : ℕ) → i < length ps → at + length (said_all (drop i ps)) ≤ n → at + length (get_or ps i p).now ≤ n
room_said ps i p at n h k = omega (arith, length-said ps i p (length (get_or ps i p).now) h refl)

pub after_said : (ps : List (Bor (List ℕ))) (i : ℕ) (p : Bor (List ℕ)) (at r : ℕ) → i < length ps → r ≡ at + length (get_or ps i p).now → r + length (said_all (drop (i + 1) ps)) ≡ at + length (said_all (drop i ps))
after_said ps i p at r h e = omega (arith, length-said ps i p (length (get_or ps i p).now) h refl)

pub sets-said : (ps : List (Bor (List ℕ))) (i : ℕ) (p : Bor (List ℕ)) (at r : ℕ) (l m : List ℕ) → i < length ps → r ≡ at + length (get_or ps i p).now → m ≡ sets l at (get_or ps i p).now → sets m r (said_all (drop (i + 1) ps)) ≡ sets l at (said_all (drop i ps))
sets-said ps i p at r l m h e d = let j = sets-append (get_or ps i p).now (said_all (drop (i + 1) ps)) l at in let k = ap (λ vs. sets l at vs) (at_drop_more said_all ps i p h) in cc

pub sets_unsaid : (ps : List (Bor (List ℕ))) (i : ℕ) (l : List ℕ) (at : ℕ) → length ps ≤ i → sets l at (said_all (drop i ps)) ≡ l
sets_unsaid ps i l at h = ap (λ vs. sets l at vs) (at_drop_all said_all ps i h)
