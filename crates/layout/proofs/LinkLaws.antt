-- Laws of the columns of parents and previous siblings: where a column leads, and one element more of the pass that fills them.
-- Assumes nothing.
use Prim.Native.Nat.{ℕ, zero, suc, ◌+◌, ◌≤◌, ◌<◌}
use native.Mathlib.Decide.{ℕ_discrete, dec_lt}
use native.Mathlib.Nat.{eq-or-lt_of_le, le_of_suc-le-suc}
use native.Mathlib.Numerals.{add-one}
use native.Mathlib.Omega.{arith}
use mathlib.Core.Path.{◌≡◌, refl, sym, ap, fun_ext, ◌∙◌}
use mathlib.Core.List.{List, [], ◌∷◌}
use mathlib.Core.Logic.{⊎_elim}
use mathlib.Core.Option.{Option, none, some}
use borrow.Author.Tests.{lt-ltb, le-ltb, le-leb, ne_eqb}
use lib.ListN.{length, get_or, set, drop, length-set, get_or-eq_default}
use lib.Seq.{get_or-set_same, get_or-set_other}
use Rattle.grammar.specs.Legal.{LegalLevels}
use Rattle.numbers.proofs.Tells.{ltb-tests}
use Rattle.meaning.specs.Links.{last_up_to, if_level, parent_at, parent, previous}
use Rattle.meaning.proofs.Links.{Last, last-here, last-past, level-iff, guard-iff, Down, parent_is, parent-within, previous-within}
use Rattle.meaning.proofs.Tests.{Finds}
use Rattle.layout.specs.Links.{leads_to, leads, Leads, Linked, up_of, left_of}
use Rattle.terms.specs.Limits.{levels_most}

-- ---- where a column leads

-- What stands in a list does not depend on what would stand past its end.
pub get_d_any : (f : List ℕ) (s d e : ℕ) → s < length f → get_or f s d ≡ get_or f s e
get_d_any [] s d e l = absurd (omega arith)
get_d_any (x ∷ f) zero d e l = refl
get_d_any (x ∷ f) (suc s) d e l = get_d_any f s d e (le_of_suc-le-suc l)

-- Where a column leads from one of its elements, by the number that stands there.
pub leads-at : (f : List ℕ) (s : ℕ) → s < length f → leads f s ≡ leads_to s (get_or f s 0)
unfolding leads
leads-at f s l = rw (get_d_any f s s 0)

-- Past its end a column leads nowhere.
leads-past : (f : List ℕ) (s : ℕ) → length f ≤ s → leads f s ≡ none
unfolding leads
leads-past f s l = rw (get_or-eq_default f s l, le-ltb s s (omega arith))

-- A column leads to lower numbers, and from its own elements only.
pub leads-down : (f : List ℕ) → Down (leads f)
unfolding leads
leads-down f s t e =
    let h = (guard-iff (some (get_or f s s)) t (ltb-tests (get_or f s s) s)).0 e in
    let z : get_or f s s ≡ t = cc h.1 in omega (arith, h.0)

pub leads-inside : (f : List ℕ) (s t : ℕ) → leads f s ≡ some t → s < length f
leads-inside f s t e =
    elim (dec_lt s (length f)) [
      | yes l ↦ l
      | no n ↦ let z : ◌≡◌ {A = ℕ} 0 1 = cc (leads-past f s (omega arith)) in absurd (omega arith)
    ]

-- A column leads to t from s exactly where the number at s is t, and t is below s.
pub leads-number : (f : List ℕ) (s t d : ℕ) → leads f s ≡ some t → get_or f s d ≡ t
unfolding leads
leads-number f s t d e =
    let h = (guard-iff (some (get_or f s s)) t (ltb-tests (get_or f s s) s)).0 e in
    get_d_any f s d s (leads-inside f s t e) ∙ cc h.1

pub number-leads : (f : List ℕ) (s t d : ℕ) → s < length f → t < s → get_or f s d ≡ t → leads f s ≡ some t
unfolding leads
number-leads f s t d l h e = rw (get_d_any f s s d, e, lt-ltb t s h)

-- The relation that a column finds backward.
pub leads-finds : (f : List ℕ) → Finds (λ t s. leads f s ≡ some t) (leads f) (length f)
leads-finds f = record { is = λ s t. (λ e. e, λ e. e); down = leads-down f; inside = leads-inside f }

-- A column as long as there are elements, which leads as F does and F leads from elements only, leads as F everywhere.
leads-all : (F : ℕ → Option ℕ) (n : ℕ) (f : List ℕ) → ((s : ℕ) → n ≤ s → F s ≡ none) → length f ≡ n → Leads F n f → leads f ≡ F
leads-all F n f out e r =
    fun_ext (λ s. elim (dec_lt s n) [
      | yes l ↦ r.lead s l
      | no h ↦ leads-past f s (omega arith) ∙ sym (out s (omega arith))
    ])

-- One number more.
leads-next : {F : ℕ → Option ℕ} {f : List ℕ} (k v : ℕ) → k < length f → v ≤ k → leads_to k v ≡ F k → Leads F k f
    → Leads F (k + 1) (set f k v)
unfolding leads
leads-next {F} {f} k v l h e r = record { lead = lead; near = near } where
  lead : (s : ℕ) → s < k + 1 → leads (set f k v) s ≡ F s
  lead s m =
      elim (ℕ_discrete s k) [
        | yes q ↦ rw (q, get_or-set_same f k v k l) e
        | no ne ↦ rw (get_or-set_other f k s v s ne) (r.lead s (omega arith))
      ]

  near : (s : ℕ) → s < k + 1 → get_or (set f k v) s 0 ≤ s
  near s m =
      elim (ℕ_discrete s k) [
        | yes q ↦ rw (q, get_or-set_same f k v 0 l) h
        | no ne ↦ rw (get_or-set_other f k s v 0 ne) (r.near s (omega arith))
      ]

-- ---- the pass over the levels

-- For each level below `depth`, `held` has the last element before s that is not below that level, and it is at that level.
abbrev pub Held : (levels held : List ℕ) (depth s : ℕ) → Type 0
Held levels held depth s = (e : ℕ) → e < depth → Last levels e s (get_or held e 0) × (get_or levels (get_or held e 0) 0 ≡ e)

-- Between two turns: the columns lead from the elements before s, and the levels held reach that of the element before s.
pub record LinkMid (levels ups lefts held : List ℕ) (depth s : ℕ) : Type 0 where
  pub within : s ≤ length levels
  pub ups_long : length ups ≡ length levels
  pub lefts_long : length lefts ≡ length levels
  pub held_long : levels_most ≤ length held
  pub ups_lead : Leads (parent levels) s ups
  pub lefts_lead : Leads (previous levels) s lefts
  pub reach : (k : ℕ) → suc k ≡ s → depth ≡ suc (get_or levels k 0)
  pub stack : Held levels held depth s

leads-none : (F : ℕ → Option ℕ) (f : List ℕ) → Leads F 0 f
leads-none F f = record { lead = λ s l. absurd (omega arith); near = λ s l. absurd (omega arith) }

link_start : (levels ups lefts held : List ℕ) → length ups ≡ length levels → length lefts ≡ length levels → levels_most ≤ length held
    → LinkMid levels ups lefts held 0 0
link_start levels ups lefts held u f h =
    record {
      within = omega arith;
      ups_long = u;
      lefts_long = f;
      held_long = h;
      ups_lead = leads-none _ ups;
      lefts_lead = leads-none _ lefts;
      reach = λ k e. absurd (omega arith);
      stack = λ e l. absurd (omega arith);
    }

module _ {levels ups lefts held : List ℕ} {depth s : ℕ} (legal : LegalLevels levels) (mid : LinkMid levels ups lefts held depth s)
    (l : s < length levels) where
  abbrev d : ℕ
  d = get_or levels s 0

  -- The level of the element in hand is held, or one past those held.
  d-le : d ≤ depth
  d-le = go s refl where
    go : (k : ℕ) → s ≡ k → d ≤ depth
    go zero e = rw e (omega (arith, legal.root))
    go (suc k) e = omega (arith, (legal.next k (omega arith)).1, ap (λ (x : ℕ). get_or levels x 0) e, mid.reach k (sym e))

  held-lt : (e : ℕ) → e < depth → get_or held e 0 < s
  held-lt e h = (mid.stack e h).0.before

  found : (e : ℕ) → e < depth → if_level levels e (last_up_to levels e s) ≡ some (get_or held e 0)
  found e h = (level-iff levels e s (get_or held e 0)).1 (mid.stack e h)

  -- The parent is one level up, if there is such a level.
  up_is : (k : ℕ) → d ≡ k → (up_of held k s ≤ s) × (leads_to s (up_of held k s) ≡ parent levels s)
  unfolding parent parent_at
  up_is zero e = (omega arith, rw (le-ltb s s (omega arith), lt-ltb s (length levels) l, e))
  up_is (suc k) e =
      let h = held-lt k (omega (arith, d-le)) in
      (omega arith, rw (lt-ltb (get_or held k 0) s h, lt-ltb s (length levels) l, e) (sym (found k (omega (arith, d-le)))))

  -- An element that opens a level has no previous sibling.
  alone : d ≡ depth → if_level levels d (last_up_to levels d s) ≡ none
  unfolding if_level last_up_to
  alone e = go s refl where
    go : (k : ℕ) → s ≡ k → if_level levels d (last_up_to levels d k) ≡ none
    go zero q = refl
    go (suc k) q =
        let r = mid.reach k (sym q) in
        rw (le-leb (get_or levels k 0) d (omega arith), ne_eqb (get_or levels k 0) d (λ z. omega arith))

  left_is : (left_of held d depth s ≤ s) × (leads_to s (left_of held d depth s) ≡ previous levels s)
  unfolding previous
  left_is =
      ⊎_elim (λ e. rw (le-ltb d depth (omega arith), le-ltb s s (omega arith), lt-ltb s (length levels) l) (omega arith, sym (alone e)))
      (λ h. let m = held-lt d h in
      rw (lt-ltb d depth h, lt-ltb (get_or held d 0) s m, lt-ltb s (length levels) l) (omega arith, sym (found d h)))
      (eq-or-lt_of_le d-le)

  -- The element in hand takes its level's place; the levels past it are held no more.
  push : (e : ℕ) → e < d + 1 → Last levels e (s + 1) (get_or (set held d s) e 0) × (get_or levels (get_or (set held d s) e 0) 0 ≡ e)
  push e h =
      elim (ℕ_discrete e d) [
        | yes q ↦
            rw (add-one s, q, get_or-set_same held d s 0 (omega (arith, mid.held_long, legal.low s l)))
            (last-here levels d s (omega arith), refl)
        | no ne ↦
            let r = mid.stack e (omega (arith, d-le)) in
            rw (add-one s, get_or-set_other held d e s 0 ne) (last-past levels e s _ (λ z. omega arith) r.0, r.1)
      ]

  -- One turn.
  link-turn : LinkMid levels (set ups s (up_of held d s)) (set lefts s (left_of held d depth s)) (set held d s) (d + 1) (s + 1)
  link-turn =
      record {
        within = omega arith;
        ups_long = length-set ups s _ ∙ mid.ups_long;
        lefts_long = length-set lefts s _ ∙ mid.lefts_long;
        held_long = omega (arith, length-set held d s, mid.held_long);
        ups_lead = leads-next s _ (omega (arith, mid.ups_long)) (up_is d refl).0 (up_is d refl).1 mid.ups_lead;
        lefts_lead = leads-next s _ (omega (arith, mid.lefts_long)) left_is.0 left_is.1 mid.lefts_lead;
        reach = λ k e. let q : k ≡ s = omega arith in rw q (add-one d);
        stack = push;
      }

-- ---- the same with one place in front, and the next element's number behind the levels held: what is written stands there

pub record LinkMore (levels ups lefts held : List ℕ) (s : ℕ) : Type 0 where
  pub depth : ℕ
  pub mid : LinkMid levels ups lefts (drop 1 held) depth s
  pub long : length held ≡ 66
  pub base : get_or held 0 0 ≡ 0
  pub top : get_or held (suc depth) 0 ≡ s

get_d-behind : (held : List ℕ) (k : ℕ) → get_or (drop 1 held) k 0 ≡ get_or held (suc k) 0
get_d-behind [] k = refl
get_d-behind (x ∷ xs) k = refl

set-behind : (held : List ℕ) (k v : ℕ) → drop 1 (set held (suc k) v) ≡ set (drop 1 held) k v
set-behind [] k v = refl
set-behind (x ∷ xs) k v = refl

get_d_front : (held : List ℕ) (k v : ℕ) → get_or (set held (suc k) v) 0 0 ≡ get_or held 0 0
get_d_front [] k v = refl
get_d_front (x ∷ xs) k v = refl

-- A place past those held may have anything.
unheld : {levels ups lefts held : List ℕ} {depth s : ℕ} (v : ℕ) → LinkMid levels ups lefts held depth s
    → LinkMid levels ups lefts (set held depth v) depth s
unheld {held = held} {depth = depth} v m =
    record {
      within = m.within;
      ups_long = m.ups_long;
      lefts_long = m.lefts_long;
      held_long = omega (arith, length-set held depth v, m.held_long);
      ups_lead = m.ups_lead;
      lefts_lead = m.lefts_lead;
      reach = m.reach;
      stack = λ e h. rw (get_or-set_other held depth e v 0 (λ z. omega arith)) (m.stack e h);
    }

module _ {levels ups lefts held : List ℕ} {s : ℕ} (legal : LegalLevels levels) (more : LinkMore levels ups lefts held s)
    (l : s < length levels) where
  abbrev at : ℕ
  at = get_or levels s 0

  more-up : (k : ℕ) → at ≡ k → up_of (drop 1 held) k s ≡ get_or held k 0
  more-up zero q = go s refl where
    go : (k : ℕ) → s ≡ k → s ≡ get_or held 0 0
    go zero e = e ∙ sym more.base
    go (suc k) e = absurd (omega (arith, (legal.next k (omega arith)).0, ap (λ (x : ℕ). get_or levels x 0) e))
  more-up (suc k) q = get_d-behind held k

  more_left : left_of (drop 1 held) at more.depth s ≡ get_or held (suc at) 0
  more_left =
      ⊎_elim (λ e. rw (le-ltb at more.depth (omega arith)) (sym more.top ∙ ap (λ (k : ℕ). get_or held (suc k) 0) (sym e)))
      (λ h. rw (lt-ltb at more.depth h) (get_d-behind held at)) (eq-or-lt_of_le (d-le legal more.mid l))

  abbrev after : List ℕ
  after = set (set held (suc at) s) (suc (suc at)) (suc s)

  -- One turn.
  more_turn : LinkMore levels (set ups s (get_or held at 0)) (set lefts s (get_or held (suc at) 0)) after (s + 1)
  more_turn =
      record {
        depth = suc at;
        mid = rw (set-behind (set held (suc at) s) (suc at) (suc s), set-behind held at s)
            (unheld (suc s) (rw (more-up at refl, more_left, add-one at) at (link-turn legal more.mid l)));
        long = length-set (set held (suc at) s) (suc (suc at)) (suc s) ∙ length-set held (suc at) s ∙ more.long;
        base = get_d_front (set held (suc at) s) (suc at) (suc s) ∙ get_d_front held at s ∙ more.base;
        top = get_or-set_same (set held (suc at) s) (suc (suc at)) (suc s) 0
            (omega (arith, length-set held (suc at) s, more.long, legal.low s l)) ∙ sym (add-one s);
      }

  pub more-turn-at : (p q r : ℕ) → p ≡ suc at → q ≡ suc (suc at) → r ≡ suc s
      → LinkMore levels (set ups s (get_or held at 0)) (set lefts s (get_or held p 0)) (set (set held p s) q r) r
  more-turn-at p q r a b e = rw (a, b, e) (rw (add-one s) at more_turn)

-- ---- the columns everywhere

module _ {levels ups lefts : List ℕ} (linked : Linked levels ups lefts) where
  -- The columns lead to parents and to previous siblings, from every number.
  pub ups-all : leads ups ≡ parent levels
  ups-all = leads-all (parent levels) (length levels) ups (parent-within levels) linked.ups_long linked.ups_lead

  pub lefts-all : leads lefts ≡ previous levels
  lefts-all = leads-all (previous levels) (length levels) lefts (previous-within levels) linked.lefts_long linked.lefts_lead

-- A parent's first child is the element after it.
pub parent-next : (levels : List ℕ) → LegalLevels levels → (s t : ℕ) → parent levels t ≡ some s → parent levels (suc s) ≡ some s
parent-next levels legal s t e =
    let c = (parent_is levels t s).0 e in
    (parent_is levels (suc s) s).1 (
    record {
      element = omega (arith, c.before, c.element);
      before = omega arith;
      under = ⊎_elim (λ q. rw q c.under) (λ m. omega (arith, c.between (suc s) (omega arith) m, (legal.next s (omega (arith, c.element))).1))
          (eq-or-lt_of_le c.before);
      between = λ k a b. absurd (omega arith);
    }
    )
