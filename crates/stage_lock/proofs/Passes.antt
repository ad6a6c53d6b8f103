-- A split and a join keep the rule.
use Rattle.std.proofs.Common.{◌≡◌, ◌≢◌, ℕ, ◌+◌, ◌*◌, ◌^◌, ◌≤◌, max, [], ◌∷◌, set, Some, None, sym, refl, ap, ◌∙◌, subst, ⊎_elim, inl, inr, arith}
use Rattle.std.specs.Prelude.{IsSome}
use Rattle.std.proofs.lemmas.List.Elements.{All-nil, All-cons}
use Rattle.std.proofs.lemmas.Nat.{pow_pos}
use Rattle.std.proofs.Math.Nat.{max-eq_left, max-eq_right}
use mathlib.Core.Logic.{dite}
use mathlib.Core.Option.{some, some-injective}
use native.Mathlib.Decide.{ℕ_discrete, dec_le}
use lib.ListN.{get_elem?}
use Rattle.atomic_table.specs.Table.{Splits, Joins}
use Rattle.atomic_table.proofs.Lists.{at_set, at_snoc, at_longer, set_else}
use Rattle.index_model.specs.Stages.{IsReachable}
use Rattle.stage_lock.specs.declared.known.Known.{Known}
use Rattle.stage_lock.specs.declared.known.Turn.TheVariants.{Without, Back}
use Rattle.stage_lock.specs.Rule.{Lives, parted, newcomer, joined, spent}
use Rattle.stage_lock.proofs.Seats.{St, Rule, K, lives, each_seat, still_held}
use Rattle.stage_lock.proofs.Shares.{split_fine, split_whole, join_fine, join_whole, product_positive}

module _ {V X : Type 0} (stage_of : V → ℕ) (subject : V → X) (fits : X → ℕ → Type 0) (about : X) where
  abbrev R : St stage_of subject fits about → Type 0
  R = Rule stage_of subject fits about

  -- a pass is split in two
  pub split_allowed : (seat : ℕ) (v : Known V X) → Splits R seat v (parted v) (newcomer v)
  split_allowed seat v s r at =
      let l : Known V X = parted v in
      let n : Known V X = newcomer v in
      let mine = r.each seat v at in record {
        turn = r.turn;
        holder = r.holder;
        now = r.now;
        words = r.words;
        home = r.home;
        away = r.away;
        small = r.small;
        fitting = r.fitting;
        held = λ z. let h = still_held stage_of subject fits about s.views r.holder r.turn seat v l at refl (r.held z) in (h.0, at_longer (set s.views seat l) (n ∷ []) r.holder h.0 h.1, h.2);
        scale = r.scale + 1;
        fine = split_fine r.scale s.views seat v l n at refl refl r.fine;
        whole = split_whole r.scale s.views seat v l n at refl refl r.fine r.whole;
        each = λ j u e. ⊎_elim (λ was. each_seat stage_of subject fits about (K stage_of subject fits about r.turn r.holder r.now) s.views seat l (stays s r mine) (λ i w _ e'. r.each i w e') j u was) (λ (t : n ≡ u). subst (K stage_of subject fits about r.turn r.holder r.now j) t (fresh s r j mine)) (at_snoc (set s.views seat l) n u j e);
      }
    where
      stays : (s : St stage_of subject fits about) (r : R s) → K stage_of subject fits about r.turn r.holder r.now seat v → K stage_of subject fits about r.turn r.holder r.now seat (parted v)
      stays s r k =
          ⊎_elim inl
          (λ (t : (v.about ≡ Some about) × Lives stage_of subject fits about r.turn r.holder r.now seat v).
          inr (
            t.0,
            record {
              has_share = t.1.has_share;
              fitting = t.1.fitting;
              reaches = t.1.reaches;
              olds = t.1.olds;
              marks = t.1.marks;
              own = t.1.own;
              out = t.1.out;
              back = t.1.back;
            },
          ))
          k

      fresh : (s : St stage_of subject fits about) (r : R s) (j : ℕ) → K stage_of subject fits about r.turn r.holder r.now seat v → K stage_of subject fits about r.turn r.holder r.now j (newcomer v)
      fresh s r j k =
          ⊎_elim (λ (t : (v.about ≡ None) × (v.turn ≡ Without)). inl (t.0, refl))
          (λ (t : (v.about ≡ Some about) × Lives stage_of subject fits about r.turn r.holder r.now seat v).
          inr (
            t.0,
            record {
              has_share = t.1.has_share;
              fitting = t.1.fitting;
              reaches = t.1.reaches;
              olds = All-nil (λ o. IsReachable o r.now);
              marks = All-nil (fits about);
              own = λ z. absurd (z refl);
              out = λ e. absurd (cc);
              back = λ e. absurd (cc);
            },
          ))
          k

  -- a pass takes in another, which is without the turn
  pub join_allowed : (seat : ℕ) (v : Known V X) (other : ℕ) (w : Known V X) → IsSome v.about → IsSome w.about → w.turn ≡ Without → v.turn ≢ Back → Joins R seat v other w (joined v w) spent
  join_allowed seat v other w live live' idle unput s r at apart there =
      let at' : get_elem? s.views other ≡ some w = ⊎_elim (λ (t : (other ≡ seat) × (joined v w ≡ w)). absurd (apart t.0)) (λ (t : (other ≢ seat) × (get_elem? s.views other ≡ some w)). t.1) (at_set s.views seat other (joined v w) w there) in
      let l = lives stage_of subject fits about r.turn r.holder r.now seat v live (r.each seat v at) in
      let m = lives stage_of subject fits about r.turn r.holder r.now other w live' (r.each other w at') in
      let P : ℕ → Type 0 = λ z. fits about z × IsReachable z r.now in
      let top : P (max v.floor w.floor) = dite (dec_le v.floor w.floor) (λ le. subst P (sym (max-eq_right le)) (m.1.fitting, m.1.reaches)) (λ (no : ¬ (v.floor ≤ w.floor)). subst P (sym (max-eq_left (omega arith))) (l.1.fitting, l.1.reaches)) in
      record {
        turn = r.turn;
        holder = r.holder;
        now = r.now;
        words = r.words;
        home = r.home;
        away = r.away;
        small = r.small;
        fitting = r.fitting;
        held = λ z. let h = still_held stage_of subject fits about s.views r.holder r.turn seat v (joined v w) at refl (r.held z) in
            dite (ℕ_discrete r.holder other)
            (λ e. let same : some h.0 ≡ some w = sym h.1 ∙ (ap (get_elem? (set s.views seat (joined v w))) e ∙ there) in let none_left : r.turn ≡ Without = sym h.2 ∙ (ap (λ (u : Known V X). u.turn) (some-injective h.0 w same) ∙ idle) in absurd (z none_left))
            (λ ne. (h.0, set_else (set s.views seat (joined v w)) other r.holder spent ne ∙ h.1, h.2));
        scale = r.scale + (v.share.halvings + w.share.halvings);
        fine = join_fine r.scale s.views seat other v w (joined v w) spent at refl refl r.fine;
        whole = join_whole r.scale s.views seat other v w (joined v w) spent at there refl refl r.fine r.whole;
        each = each_seat stage_of subject fits about (K stage_of subject fits about r.turn r.holder r.now) (set s.views seat (joined v w)) other spent (inl (refl, refl)) (λ j d _ e. each_seat stage_of subject fits about (K stage_of subject fits about r.turn r.holder r.now) s.views seat (joined v w) (inr (
          l.0,
          record {
            has_share = joined_share v.share.part w.share.part (2 ^ v.share.halvings) (2 ^ w.share.halvings) l.1.has_share (pow_pos w.share.halvings);
            fitting = top.0;
            reaches = top.1;
            olds = All-cons (λ o. IsReachable o r.now) v.floor (w.floor ∷ []) l.1.reaches (All-cons (λ o. IsReachable o r.now) w.floor [] m.1.reaches (All-nil (λ o. IsReachable o r.now)));
            marks = l.1.marks;
            own = l.1.own;
            out = l.1.out;
            back = λ e. absurd (unput e);
          },
        )) (λ i u _ e'. r.each i u e') j d e);
      }
    where
      joined_share : (p q a b : ℕ) → 1 ≤ p → 1 ≤ b → 1 ≤ p * b + q * a
      joined_share p q a b lp lb = more (p * b) (q * a) (product_positive p b lp lb)
        where
          more : (m n : ℕ) → 1 ≤ m → 1 ≤ m + n
          more m n h = omega arith
