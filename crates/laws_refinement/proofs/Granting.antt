-- The participants, and the transaction, with what was granted.
use Rattle.std.proofs.Common.{[], ◌≡◌, ◌≢◌, ◌≤◌, ℕ, ◌==◌, ◌||◌, max, Bool, true, false, cond, inr, List, ◌∷◌, ◌++◌, map}
use Rattle.std.proofs.Common.{Option, Some, None, slice_get, refl, sym, ap, ◌∙◌, subst, arith}
use Rattle.std.specs.Prelude.{option_map}
use Rattle.std.specs.Option.{option_map_or}
use Rattle.qc_stamp.specs.declared.stamp.TxId.{TxId}
use Rattle.qc_list.specs.Vocabulary.{In}
use Rattle.qc_entry.specs.declared.line.Line.{Line}
use Rattle.qc_entry.specs.declared.line.OwnLine.{OwnLine}
use Rattle.qc_entry.specs.Vocabulary.{IsAscending, union}
use Rattle.qc_decl.specs.declared.declaration.Declaration.{Declaration}
use Rattle.qc_msg.specs.declared.begun.LifeAt.{LifeAt}
use Rattle.qc_msg.specs.declared.message.Want.{Want}
use Rattle.qc_msg.specs.declared.payload.Grant.{Grant}
use Rattle.qc_msg.specs.Vocabulary.{has_granted, with_life}
use Rattle.theory_machine.specs.Vocabulary.{Aborted, Count, Granted, IsShown, NotBegun, State, after_act, op_of}
use Rattle.theory_machine.specs.Vocabulary.{own_on as machine_own_on}
use Rattle.qc_front.specs.Vocabulary.{lived, own_on, view_log, with_granted, with_view}
use Rattle.theory_machine.proofs.Names.{put_case}
use Rattle.qc_commit.specs.Vocabulary.{record_of}
use Rattle.qc_view.specs.declared.view.View.{View}
use Rattle.qc_view.specs.Vocabulary.{with_log}
use Rattle.qc_front.specs.declared.transaction.Transaction.{Transaction}
use Rattle.qc_front.proofs.CommandsKeep.{view_keeps}
use Rattle.qc_client.specs.Vocabulary.{is_begun}
use Rattle.qc_client.specs.declared.client.Client.{Client}
use Rattle.laws_refinement.specs.Vocabulary.{IsGrant, LivesMirror}
use Rattle.laws_refinement.proofs.ClientSteps.{Core}
use Rattle.laws_refinement.proofs.Recorded.{log_here, log_there, views_keep_own}
use Rattle.laws_refinement.proofs.Lives.{has_last}

-- participants

any_more : (lives : List LifeAt) (l : LifeAt) (site : ℕ) → has_granted lives site ≡ true
    → has_granted (lives ++ l ∷ []) site ≡ true
any_more [] l site h = absurd (let never : ⊥ = cc in never)
any_more (x ∷ xs) l site h = by (x.site == site) h (any_more xs l site)
  where
    by : (b : Bool) → (b || has_granted xs site) ≡ true
        → (has_granted xs site ≡ true → has_granted (xs ++ l ∷ []) site ≡ true)
        → (b || has_granted (xs ++ l ∷ []) site) ≡ true
    by true k rest = refl
    by false k rest = rest k

life_kept : (lives : List LifeAt) (site life other : ℕ) → has_granted lives other ≡ true
    → has_granted (with_life lives site life) other ≡ true
life_kept lives site life other h = by (has_granted lives site)
  where
    by : (b : Bool) → has_granted (cond b lives (lives ++ record { site = site; life = life } ∷ [])) other ≡ true
    by true = h
    by false = any_more lives (record { site = site; life = life }) other h

life_new : (lives : List LifeAt) (site life : ℕ) → has_granted (with_life lives site life) site ≡ true
life_new lives site life = by (has_granted lives site) refl
  where
    by : (b : Bool) → has_granted lives site ≡ b
        → has_granted (cond b lives (lives ++ record { site = site; life = life } ∷ [])) site ≡ true
    by true is = is
    by false is = has_last lives site life

-- the transaction with what was granted
pub record IsGiven (t u : Transaction) (site life : ℕ) : Type 0 where
  pub tx : u.begun.tx ≡ t.begun.tx
  pub epoch : u.begun.epoch ≡ t.begun.epoch
  pub ops : u.begun.ops ≡ t.begun.ops
  pub own : u.own ≡ t.own
  pub lives : u.begun.lives ≡ with_life t.begun.lives site life

pub lived_given : (t : Transaction) (site life : ℕ) → IsGiven t (lived t site life) site life
lived_given t site life = record { tx = refl; epoch = refl; ops = refl; own = refl; lives = refl }

pub granted_given : (t : Transaction) (site life object : ℕ) (log : List Line)
    → IsGiven t (with_granted (lived t site life) object log) site life
granted_given t site life object log =
    let kept : (with_granted (lived t site life) object log).begun ≡ (lived t site life).begun =
    view_keeps (lived t site life) object (option_map (λ (v : View). with_log v log) (slice_get t.views object)) in
    record {
      tx = ap (λ b. b.tx) kept;
      epoch = ap (λ b. b.epoch) kept;
      ops = ap (λ b. b.ops) kept;
      own =
          views_keep_own (lived t site life) object
          (option_map (λ (v : View). with_log v log) (slice_get t.views object));
      lives = ap (λ b. b.lives) kept;
    }

pub granted_here : (t : Transaction) (object : ℕ) (log : List Line) (v : View) → slice_get t.views object ≡ Some v
    → view_log (with_granted t object log) object ≡ union (view_log t object) log
granted_here t object log v is =
    ap (λ (o : Option View). view_log (with_view t object (option_map (λ (x : View). with_log x log) o)) object) is
    ∙ log_here t.views object v (with_log v log) is
    ∙ ap (λ (ls : List Line). union ls log)
    (sym (ap (λ (o : Option View). option_map_or (λ (x : View). x.log) o []) is))

pub granted_there : (t : Transaction) (object other : ℕ) (log : List Line) → other ≢ object
    → view_log (with_granted t object log) other ≡ view_log t other
granted_there t object other log apart = by (slice_get t.views object)
  where
    by : (o : Option View)
        → view_log (with_view t object (option_map (λ (x : View). with_log x log) o)) other ≡ view_log t other
    by None = refl
    by (Some v) = log_there t.views object other (with_log v log) apart

-- the client after it learned of the grant
abbrev pub learned : Client → ℕ → Client
learned c clock = record c { front = record c.front { clock = record { value = max c.front.clock.value clock } } }

pub counted_core : (decl : Declaration) (w : State) (a : ℕ) (c : Client) (t u : Transaction) (site : ℕ) (x : Grant)
    (want : Want) (k : IsGrant decl w site x t.begun.tx want)
    → LivesMirror (k.grant ∷ w.counted) t.begun.tx (with_life t.begun.lives site x.life) → Core decl w a c t
    → IsGiven t u site x.life
    → ((object : ℕ) → IsAscending (view_log u object))
    → ((object : ℕ) (l : Line) → In l (view_log u object)
    → (l.object ≡ object) × IsShown (k.grant ∷ w.counted) t.begun.tx l)
    → ((l : Line) → IsShown (k.grant ∷ w.counted) t.begun.tx l → In l (view_log u l.object))
    → Core decl (after_act w (Count k.grant)) a (learned c x.clock) u
counted_core decl w a c t u site x want k lives core is sorted shown whole = record {
  own = record {
    actor = core.own.actor;
    desk = core.own.desk;
    lives_to_come = core.own.lives_to_come;
    epoch = core.own.epoch;
    desk_epoch = core.own.desk_epoch;
    clock =
        put_case (λ (n : ℕ). n ≤ max c.front.clock.value x.clock) w.clock k.grant.tx.client
        (max (w.clock k.grant.tx.client) k.grant.clock) c.front.client
        (λ e. (let l : w.clock c.front.client ≤ c.front.clock.value = core.own.clock in
        let z : w.clock k.grant.tx.client ≡ w.clock c.front.client = ap w.clock (sym e) in
        let y : k.grant.clock ≡ x.clock = k.clock_is in omega arith))
        (λ ne. (let l : w.clock c.front.client ≤ c.front.clock.value = core.own.clock in omega arith));
    to_come = core.own.to_come;
    committed = core.own.committed;
    aborted =
        subst (λ (n : TxId). (z : TxId) → z.client ≡ c.front.client → w.status z ≢ NotBegun
        → is_begun z (Some (record t { begun = record t.begun { tx = n } })) ≡ false → record_of c.desk.commits z ≡ None
        → w.status z ≡ Aborted) (sym is.tx) core.own.aborted;
  };
  begun = record {
    named = is.tx ∙ core.begun.named;
    epoch = is.epoch ∙ core.begun.epoch ∙ ap w.epoch (sym is.tx);
    lives = subst (λ (ls : List LifeAt). LivesMirror (k.grant ∷ w.counted) u.begun.tx ls) (sym is.lives)
        (subst (λ (n : TxId). LivesMirror (k.grant ∷ w.counted) n (with_life t.begun.lives site x.life)) (sym is.tx)
        lives);
    ops = is.ops ∙ core.begun.ops ∙ ap (λ (n : TxId). map op_of (w.executed n)) (sym is.tx);
    own =
        λ object. ap (λ (os : List OwnLine). own_on os object) is.own ∙ core.begun.own object
        ∙ ap (λ (n : TxId). machine_own_on (w.executed n) object) (sym is.tx);
    sorted = sorted;
    shown =
        λ object l among. subst (λ (n : TxId). (l.object ≡ object) × IsShown (k.grant ∷ w.counted) n l) (sym is.tx)
        (shown object l among);
    whole = λ l s. whole l (subst (λ (n : TxId). IsShown (k.grant ∷ w.counted) n l) is.tx s);
  };
  active = ap w.status is.tx ∙ core.active;
  voting = core.voting;
}

pub more_shown : (counted : List Granted) (g : Granted) (tx : TxId) (l : Line) → IsShown counted tx l
    → IsShown (g ∷ counted) tx l
more_shown counted g tx l s = record { grant = s.grant; counts = inr s.counts; its = s.its; shows = s.shows }
