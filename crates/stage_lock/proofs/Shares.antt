-- The shares of all passes while some of them change.
use Rattle.std.proofs.Common.{◌≡◌, ◌≢◌, ℕ, zero, suc, ◌+◌, ◌*◌, ◌-◌, ◌^◌, ◌≤◌, List, [], ◌∷◌, ◌++◌, set, refl, sym, ap, ◌∙◌, subst, ⊎_elim, arith}
use Rattle.std.proofs.lemmas.Nat.{pow-add, pow_pos}
use Rattle.std.proofs.Math.Nat.{mul_assoc, add-mul}
use mathlib.Core.Option.{some, some-injective, some-ne-none}
use lib.ListN.{get_elem?}
use Rattle.atomic_table.proofs.Lists.{at_set, at_snoc}
use Rattle.stage_lock.specs.declared.known.Share.{Share}
use Rattle.stage_lock.specs.declared.known.Known.{Known}
use Rattle.stage_lock.specs.Shares.{no_share, half_of, sum_of, IsWhole, in_parts, all_parts}

-- ---- one share

less_first : (n d h : ℕ) → h ≤ n → n + d - h ≡ n - h + d
less_first n d h le = omega arith

-- in parts that are finer
finer : (scale d : ℕ) (s : Share) → s.halvings ≤ scale → in_parts (scale + d) s ≡ in_parts scale s * 2 ^ d
finer scale d s le = ap (λ n. s.part * 2 ^ n) (less_first scale d s.halvings le) ∙ (ap (λ n. s.part * n) (pow-add 2 (scale - s.halvings) d) ∙ sym (mul_assoc s.part (2 ^ (scale - s.halvings)) (2 ^ d)))

less_one : (n h : ℕ) → n + 1 - (h + 1) ≡ n - h
less_one n h = omega arith

half : (scale : ℕ) (s : Share) → in_parts (scale + 1) (half_of s) ≡ in_parts scale s
half scale s = ap (λ n. s.part * 2 ^ n) (less_one scale s.halvings)

less_both : (n a b : ℕ) → n + (a + b) - (a + b) ≡ n
less_both n a b = omega arith

less_left : (n a b : ℕ) → n + (a + b) - a ≡ b + n
less_left n a b = omega arith

less_right : (n a b : ℕ) → n + (a + b) - b ≡ a + n
less_right n a b = omega arith

added : (scale : ℕ) (s t : Share) → in_parts (scale + (s.halvings + t.halvings)) (sum_of s t) ≡ in_parts (scale + (s.halvings + t.halvings)) s + in_parts (scale + (s.halvings + t.halvings)) t
added scale s t =
    let p = s.part in
    let q = t.part in
    let a = s.halvings in
    let b = t.halvings in
    let both : (p * 2 ^ b + q * 2 ^ a) * 2 ^ (scale + (a + b) - (a + b)) ≡ p * 2 ^ b * 2 ^ scale + q * 2 ^ a * 2 ^ scale = ap (λ n. (p * 2 ^ b + q * 2 ^ a) * 2 ^ n) (less_both scale a b) ∙ add-mul (p * 2 ^ b) (q * 2 ^ a) (2 ^ scale) in
    let first : p * 2 ^ (scale + (a + b) - a) ≡ p * 2 ^ b * 2 ^ scale = ap (λ n. p * 2 ^ n) (less_left scale a b) ∙ (ap (λ n. p * n) (pow-add 2 b scale) ∙ sym (mul_assoc p (2 ^ b) (2 ^ scale))) in
    let second : q * 2 ^ (scale + (a + b) - b) ≡ q * 2 ^ a * 2 ^ scale = ap (λ n. q * 2 ^ n) (less_right scale a b) ∙ (ap (λ n. q * n) (pow-add 2 a scale) ∙ sym (mul_assoc q (2 ^ a) (2 ^ scale))) in
    both ∙ sym (ap (λ n. n + q * 2 ^ (scale + (a + b) - b)) first ∙ ap (λ n. p * 2 ^ b * 2 ^ scale + n) second)

back_to : (n h : ℕ) → h ≤ n → h + (n - h) ≡ n
back_to n h le = omega arith

whole_in_parts : (scale : ℕ) (s : Share) → IsWhole s → s.halvings ≤ scale → in_parts scale s ≡ 2 ^ scale
whole_in_parts scale s whole le = ap (λ n. n * 2 ^ (scale - s.halvings)) whole ∙ (sym (pow-add 2 s.halvings (scale - s.halvings)) ∙ ap (λ n. 2 ^ n) (back_to scale s.halvings le))

nothing_of : (a : ℕ) → 0 * a ≡ 0
nothing_of a = omega arith

pub product_positive : (a b : ℕ) → 1 ≤ a → 1 ≤ b → 1 ≤ a * b
product_positive (suc a) (suc b) la lb = omega arith
product_positive zero b la lb = absurd (omega arith)
product_positive (suc a) zero la lb = absurd (omega arith)

positive_in_parts : (scale : ℕ) (s : Share) → 1 ≤ s.part → 1 ≤ in_parts scale s
positive_in_parts scale s le = product_positive s.part (2 ^ (scale - s.halvings)) le (pow_pos (scale - s.halvings))

-- ---- all shares

module _ {V X : Type 0} where
  -- each share is in parts of 2 ^ scale
  abbrev pub AreFine : ℕ → List (Known V X) → Type 0
  AreFine scale views = (seat : ℕ) (v : Known V X) → get_elem? views seat ≡ some v → v.share.halvings ≤ scale

  -- one view changes
  parts_set : (scale : ℕ) (views : List (Known V X)) (seat : ℕ) (v w : Known V X) → get_elem? views seat ≡ some v → all_parts scale (set views seat w) + in_parts scale v.share ≡ all_parts scale views + in_parts scale w.share
  parts_set scale [] seat v w e = absurd (some-ne-none v (sym e))
  parts_set scale (u ∷ us) zero v w e =
      subst (λ (z : Known V X). in_parts scale w.share + all_parts scale us + in_parts scale z.share ≡ in_parts scale u.share + all_parts scale us + in_parts scale w.share) (some-injective u v e) (shift (in_parts scale w.share) (all_parts scale us) (in_parts scale u.share))
    where
      shift : (a b c : ℕ) → a + b + c ≡ c + b + a
      shift a b c = omega arith
  parts_set scale (u ∷ us) (suc seat) v w e = under (in_parts scale u.share) (all_parts scale (set us seat w)) (in_parts scale v.share) (all_parts scale us) (in_parts scale w.share) (parts_set scale us seat v w e)
    where
      under : (a b c d f : ℕ) → b + c ≡ d + f → a + b + c ≡ a + d + f
      under a b c d f h = omega arith

  -- one view is added
  parts_snoc : (scale : ℕ) (views : List (Known V X)) (w : Known V X) → all_parts scale (views ++ w ∷ []) ≡ all_parts scale views + in_parts scale w.share
  parts_snoc scale [] w = turn (in_parts scale w.share)
    where
      turn : (a : ℕ) → a + 0 ≡ 0 + a
      turn a = omega arith
  parts_snoc scale (u ∷ us) w = ap (λ n. in_parts scale u.share + n) (parts_snoc scale us w) ∙ turn (in_parts scale u.share) (all_parts scale us) (in_parts scale w.share)
    where
      turn : (a b c : ℕ) → a + (b + c) ≡ a + b + c
      turn a b c = omega arith

  all_finer : (scale d : ℕ) (views : List (Known V X)) → AreFine scale views → all_parts (scale + d) views ≡ all_parts scale views * 2 ^ d
  all_finer scale d [] fine = sym (nothing_of (2 ^ d))
  all_finer scale d (u ∷ us) fine =
      ap (λ n. n + all_parts (scale + d) us) (finer scale d u.share (fine 0 u refl)) ∙ (ap (λ n. in_parts scale u.share * 2 ^ d + n) (all_finer scale d us (λ j. fine (suc j))) ∙ sym (add-mul (in_parts scale u.share) (all_parts scale us) (2 ^ d)))

  -- ---- a view keeps its share

  pub kept_fine : (scale : ℕ) (views : List (Known V X)) (seat : ℕ) (v w : Known V X) → get_elem? views seat ≡ some v → w.share ≡ v.share → AreFine scale views → AreFine scale (set views seat w)
  kept_fine scale views seat v w at same fine j u e =
      ⊎_elim
      (λ (t : (j ≡ seat) × (w ≡ u)). subst (λ (s : Share). s.halvings ≤ scale) (sym same ∙ ap (λ (z : Known V X). z.share) t.1) (fine seat v at))
      (λ (t : (j ≢ seat) × (get_elem? views j ≡ some u)). fine j u t.1)
      (at_set views seat j w u e)

  pub kept_whole : (scale : ℕ) (views : List (Known V X)) (seat : ℕ) (v w : Known V X) → get_elem? views seat ≡ some v → w.share ≡ v.share → all_parts scale views ≡ 2 ^ scale → all_parts scale (set views seat w) ≡ 2 ^ scale
  kept_whole scale views seat v w at same whole = cancel _ (in_parts scale v.share) _ (parts_set scale views seat v w at ∙ ap (λ (s : Share). all_parts scale views + in_parts scale s) same) ∙ whole
    where
      cancel : (a b c : ℕ) → a + b ≡ c + b → a ≡ c
      cancel a b c e = omega arith

  -- ---- a view is split

  pub split_fine : (scale : ℕ) (views : List (Known V X)) (seat : ℕ) (v l r : Known V X) → get_elem? views seat ≡ some v → l.share ≡ half_of v.share → r.share ≡ half_of v.share → AreFine scale views → AreFine (scale + 1) (set views seat l ++ r ∷ [])
  split_fine scale views seat v l r at left right fine j u e =
      let halves : (z : Known V X) → z.share ≡ half_of v.share → z.share.halvings ≤ scale + 1 = λ z same. subst (λ (s : Share). s.halvings ≤ scale + 1) (sym same) (up v.share.halvings scale (fine seat v at)) in
      ⊎_elim
      (λ was.
      ⊎_elim
      (λ (t : (j ≡ seat) × (l ≡ u)). subst (λ (z : Known V X). z.share.halvings ≤ scale + 1) t.1 (halves l left))
      (λ (t : (j ≢ seat) × (get_elem? views j ≡ some u)). over u.share.halvings scale (fine j u t.1))
      (at_set views seat j l u was))
      (λ (t : r ≡ u). subst (λ (z : Known V X). z.share.halvings ≤ scale + 1) t (halves r right))
      (at_snoc (set views seat l) r u j e)
    where
      up : (a b : ℕ) → a ≤ b → a + 1 ≤ b + 1
      up a b h = omega arith

      over : (a b : ℕ) → a ≤ b → a ≤ b + 1
      over a b h = omega arith

  pub split_whole : (scale : ℕ) (views : List (Known V X)) (seat : ℕ) (v l r : Known V X) → get_elem? views seat ≡ some v → l.share ≡ half_of v.share → r.share ≡ half_of v.share → AreFine scale views → all_parts scale views ≡ 2 ^ scale → all_parts (scale + 1) (set views seat l ++ r ∷ []) ≡ 2 ^ (scale + 1)
  split_whole scale views seat v l r at left right fine whole =
      let q = in_parts scale v.share in
      let is_left : in_parts (scale + 1) l.share ≡ q = ap (in_parts (scale + 1)) left ∙ half scale v.share in
      let is_right : in_parts (scale + 1) r.share ≡ q = ap (in_parts (scale + 1)) right ∙ half scale v.share in
      sums (all_parts (scale + 1) (set views seat l)) (in_parts (scale + 1) v.share) (all_parts (scale + 1) views) (in_parts (scale + 1) l.share) (in_parts (scale + 1) r.share) q (all_parts scale views) (2 ^ scale) (2 ^ (scale + 1)) (all_parts (scale + 1) (set views seat l ++ r ∷ []))
      (parts_set (scale + 1) views seat v l at) (finer scale 1 v.share (fine seat v at)) (all_finer scale 1 views fine) is_left is_right whole (pow-add 2 scale 1) (parts_snoc (scale + 1) (set views seat l) r)
    where
      sums : (a b c d e q t n m z : ℕ) → a + b ≡ c + d → b ≡ q * 2 → c ≡ t * 2 → d ≡ q → e ≡ q → t ≡ n → m ≡ n * 2 → z ≡ a + e → z ≡ m
      sums a b c d e q t n m z h1 h2 h3 h4 h5 h6 h7 h8 = omega arith

  -- ---- a view takes in another

  pub join_fine : (scale : ℕ) (views : List (Known V X)) (seat other : ℕ) (v w both spent : Known V X) → get_elem? views seat ≡ some v → both.share ≡ sum_of v.share w.share → spent.share ≡ no_share → AreFine scale views → AreFine (scale + (v.share.halvings + w.share.halvings)) (set (set views seat both) other spent)
  join_fine scale views seat other v w both spent at sum none_left fine j u e =
      let d = v.share.halvings + w.share.halvings in
      ⊎_elim
      (λ (t : (j ≡ other) × (spent ≡ u)). subst (λ (s : Share). s.halvings ≤ scale + d) (sym none_left ∙ ap (λ (z : Known V X). z.share) t.1) (least (scale + d)))
      (λ (t : (j ≢ other) × (get_elem? (set views seat both) j ≡ some u)).
      ⊎_elim
      (λ (t' : (j ≡ seat) × (both ≡ u)). subst (λ (s : Share). s.halvings ≤ scale + d) (sym sum ∙ ap (λ (z : Known V X). z.share) t'.1) (behind scale d))
      (λ (t' : (j ≢ seat) × (get_elem? views j ≡ some u)). over u.share.halvings scale d (fine j u t'.1))
      (at_set views seat j both u t.1))
      (at_set (set views seat both) other j spent u e)
    where
      least : (a : ℕ) → 0 ≤ a
      least a = omega arith

      behind : (a b : ℕ) → b ≤ a + b
      behind a b = omega arith

      over : (a b c : ℕ) → a ≤ b → a ≤ b + c
      over a b c h = omega arith

  pub join_whole : (scale : ℕ) (views : List (Known V X)) (seat other : ℕ) (v w both spent : Known V X) → get_elem? views seat ≡ some v → get_elem? (set views seat both) other ≡ some w → both.share ≡ sum_of v.share w.share → spent.share ≡ no_share → AreFine scale views → all_parts scale views ≡ 2 ^ scale
      → all_parts (scale + (v.share.halvings + w.share.halvings)) (set (set views seat both) other spent) ≡ 2 ^ (scale + (v.share.halvings + w.share.halvings))
  join_whole scale views seat other v w both spent at there sum none_left fine whole =
      let d = v.share.halvings + w.share.halvings in
      let n = scale + d in
      let nothing : in_parts n spent.share ≡ 0 = ap (in_parts n) none_left ∙ nothing_of (2 ^ (n - 0)) in
      let all : all_parts n views ≡ 2 ^ n = all_finer scale d views fine ∙ (ap (λ k. k * 2 ^ d) whole ∙ sym (pow-add 2 scale d)) in
      sums (all_parts n (set views seat both)) (in_parts n v.share) (all_parts n views) (in_parts n both.share) (all_parts n (set (set views seat both) other spent)) (in_parts n w.share) (in_parts n spent.share) (2 ^ n) (parts_set n views seat v both at) (parts_set n (set views seat both) other w spent there) (ap (in_parts n) sum ∙ added scale v.share w.share) nothing all
    where
      sums : (a b c d e f g n : ℕ) → a + b ≡ c + d → e + f ≡ a + g → d ≡ b + f → g ≡ 0 → c ≡ n → e ≡ n
      sums a b c d e f g n h1 h2 h3 h4 h5 = omega arith

  -- ---- a pass with the whole share

  one_of : (scale : ℕ) (views : List (Known V X)) (i : ℕ) (u : Known V X) → get_elem? views i ≡ some u → in_parts scale u.share ≤ all_parts scale views
  one_of scale [] i u e = absurd (some-ne-none u (sym e))
  one_of scale (x ∷ xs) zero u e = subst (λ (z : Known V X). in_parts scale z.share ≤ in_parts scale x.share + all_parts scale xs) (some-injective x u e) (more (in_parts scale x.share) (all_parts scale xs))
    where
      more : (a b : ℕ) → a ≤ a + b
      more a b = omega arith
  one_of scale (x ∷ xs) (suc i) u e = more (in_parts scale u.share) (all_parts scale xs) (in_parts scale x.share) (one_of scale xs i u e)
    where
      more : (a b c : ℕ) → a ≤ b → a ≤ c + b
      more a b c h = omega arith

  two_of : (scale : ℕ) (views : List (Known V X)) (i j : ℕ) (u v : Known V X) → i ≢ j → get_elem? views i ≡ some u → get_elem? views j ≡ some v → in_parts scale u.share + in_parts scale v.share ≤ all_parts scale views
  two_of scale [] i j u v apart e f = absurd (some-ne-none u (sym e))
  two_of scale (x ∷ xs) zero zero u v apart e f = absurd (apart refl)
  two_of scale (x ∷ xs) zero (suc j) u v apart e f = subst (λ (z : Known V X). in_parts scale z.share + in_parts scale v.share ≤ in_parts scale x.share + all_parts scale xs) (some-injective x u e) (more (in_parts scale x.share) (in_parts scale v.share) (all_parts scale xs) (one_of scale xs j v f))
    where
      more : (a b c : ℕ) → b ≤ c → a + b ≤ a + c
      more a b c h = omega arith
  two_of scale (x ∷ xs) (suc i) zero u v apart e f = subst (λ (z : Known V X). in_parts scale u.share + in_parts scale z.share ≤ in_parts scale x.share + all_parts scale xs) (some-injective x v f) (more (in_parts scale u.share) (in_parts scale x.share) (all_parts scale xs) (one_of scale xs i u e))
    where
      more : (a b c : ℕ) → a ≤ c → a + b ≤ b + c
      more a b c h = omega arith
  two_of scale (x ∷ xs) (suc i) (suc j) u v apart e f = more (in_parts scale u.share + in_parts scale v.share) (all_parts scale xs) (in_parts scale x.share) (two_of scale xs i j u v (λ same. apart (ap (λ n. suc n) same)) e f)
    where
      more : (a b c : ℕ) → a ≤ b → a ≤ c + b
      more a b c h = omega arith

  -- beside the whole there is nothing
  pub none_beside : (scale : ℕ) (views : List (Known V X)) (i j : ℕ) (u v : Known V X) → AreFine scale views → all_parts scale views ≡ 2 ^ scale → i ≢ j → get_elem? views i ≡ some u → IsWhole u.share → get_elem? views j ≡ some v → ¬ (1 ≤ v.share.part)
  none_beside scale views i j u v fine all apart e whole f some_part =
      absurd (no_room (in_parts scale u.share) (in_parts scale v.share) (all_parts scale views) (2 ^ scale) (two_of scale views i j u v apart e f) (whole_in_parts scale u.share whole (fine i u e)) (positive_in_parts scale v.share some_part) all)
    where
      no_room : (a b c n : ℕ) → a + b ≤ c → a ≡ n → 1 ≤ b → c ≡ n → ⊥
      no_room a b c n h1 h2 h3 h4 = omega arith
