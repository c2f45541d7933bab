-- A client gives a transaction up, or begins one.
use Rattle.std.proofs.Common.{[], ◌≡◌, ℕ, zero, suc, ◌+◌, Bool, true, false, cond, inl, inr, List, ◌∷◌, map, length}
use Rattle.std.proofs.Common.{Option, Some, None, slice_get, refl, sym, ap, ◌∙◌, subst, arith}
use Rattle.std.specs.Prelude.{replicate}
use Rattle.std.specs.List.{find}
use Rattle.std.specs.Option.{option_map_or}
use Rattle.qc_stamp.specs.Vocabulary.{same_tx}
use Rattle.qc_stamp.specs.declared.stamp.TxId.{TxId}
use Rattle.qc_list.specs.Vocabulary.{In}
use Rattle.qc_entry.specs.declared.line.Line.{Line}
use Rattle.qc_entry.specs.Vocabulary.{IsAscending}
use Rattle.qc_decl.specs.declared.declaration.Declaration.{Declaration}
use Rattle.qc_decl.specs.Vocabulary.{IsAccepted, is_client}
use Rattle.qc_msg.specs.declared.reply.Reply.{Reply}
use Rattle.qc_msg.specs.declared.reply.Reply.TheVariants as replies
use Rattle.theory_onecopy.specs.Vocabulary.{Executed}
use Rattle.theory_machine.specs.Vocabulary.{Act, Active, Begin, Committed, IsRun, NotBegun, State, op_of, own_on, state}
use Rattle.theory_machine.proofs.Keeps.{laws}
use Rattle.theory_machine.proofs.LogKeeps.{log_laws}
use Rattle.theory_machine.proofs.Names.{put_tx_here}
use Rattle.qc_commit.specs.declared.desk.Voting.{Voting}
use Rattle.qc_view.specs.declared.view.View.{View}
use Rattle.qc_view.specs.Vocabulary.{empty_view}
use Rattle.qc_front.specs.declared.doing.Doing.{Doing}
use Rattle.qc_front.specs.declared.doing.Doing.TheVariants.{Idle}
use Rattle.qc_front.specs.declared.front.Front.{Front}
use Rattle.qc_front.specs.declared.transaction.Transaction.{Transaction}
use Rattle.qc_front.specs.Vocabulary.{aborts, begins, fresh, gives_up, next_tx}
use Rattle.qc_client.specs.Vocabulary.{by_front, is_begun}
use Rattle.qc_client.specs.declared.client.Client.{Client}
use Rattle.laws_refinement.specs.Vocabulary.{AreVotes, Mirrors, Net, OwnMirrors, Refines, RunningMirrors, after_client}
use Rattle.laws_refinement.specs.Vocabulary.{name_at, status_by}
use Rattle.laws_refinement.proofs.ClientEnding.{Ending, ending_of, mid_begin}
use Rattle.laws_refinement.proofs.ClientEnds.{aborts_it}
use Rattle.laws_refinement.proofs.ClientRounds.{no_asks, no_sends, nothing}
use Rattle.laws_refinement.proofs.ClientSteps.{mid_first, put_tx_other, refined, turns}
use Rattle.qc_list.proofs.Members.{In-none}
use Rattle.qc_stamp.proofs.Orders.{same_tx_test}

empty_log : (n object : ℕ) → option_map_or (λ (v : View). v.log) (slice_get (replicate n empty_view) object) [] ≡ []
empty_log zero object = refl
empty_log (suc n) zero = refl
empty_log (suc n) (suc object) = empty_log n object

pub find_in : {A : Type 0} (p : A → Bool) (xs : List A) (x : A) → find p xs ≡ Some x → In x xs × (p x ≡ true)
find_in p [] x e = absurd (let never : ⊥ = cc in never)
find_in {A = A} p (y ∷ ys) x e = by (p y) refl e (find_in p ys x)
  where
    by : (b : Bool) → p y ≡ b → cond b (Some y) (find p ys) ≡ Some x → (find p ys ≡ Some x → In x ys × (p x ≡ true))
        → In x (y ∷ ys) × (p x ≡ true)
    by true is found rest = let same : x ≡ y = cc in (inl same, ap p same ∙ is)
    by false is found rest = let r : In x ys × (p x ≡ true) = rest found in (inr r.0, r.1)

module _ (decl : Declaration) (acts : List Act) (net : Net) (a : ℕ) (run : IsRun decl acts)
    (m : Mirrors decl (state acts) net) (client : is_client decl a ≡ true) (up : net.up a ≡ true) where
  -- it gives it up
  pub gives_up_case : (t : Transaction) (reply : Reply) → (net.clients a).front.transaction ≡ Some t
      → (net.clients a).desk.voting ≡ None
      → Refines decl (after_client net a (by_front (net.clients a) (gives_up (net.clients a).front t reply)))
  gives_up_case t reply is free =
      let e : Ending decl (state acts) a (net.clients a) t
      × RunningMirrors decl (state acts) net.mail (net.clients a) t =
      ending_of decl (state acts) net.mail a (net.clients a) t (m.clients a client up) is in
      refined decl (state acts) net a (by_front (net.clients a) (gives_up (net.clients a).front t reply)) m client up
      (aborts_it decl (state acts) acts net a (net.clients a) t
      (by_front (net.clients a) (gives_up (net.clients a).front t reply)) refl
      (mid_first decl acts (net.clients a).front.client run) refl e.0
      (record {
        remains = record {
          client = refl;
          life = refl;
          count = refl;
          epoch = e.0.own.epoch;
          desk = refl;
          desk_epoch = e.0.own.desk_epoch;
        };
        later = omega arith;
        transaction = refl;
        doing = refl;
        voting = free;
      })
      refl refl refl)

  pub abort_case : (net.clients a).desk.voting ≡ None → (t : Option Transaction) → (net.clients a).front.transaction ≡ t
      → Refines decl (after_client net a (by_front (net.clients a) (aborts (net.clients a).front t)))
  abort_case free None is =
      nothing decl acts net a (by_front (net.clients a) (aborts (net.clients a).front None)) run m client up refl refl
      refl
  abort_case free (Some t) is = gives_up_case t replies.Dropped is free

  -- it begins one

  no_votes : (c : Client) (t : Transaction) (w : State) (o : Option Voting) → o ≡ None → AreVotes w net.mail c t o
  no_votes c t w None is = tt
  no_votes c t w (Some v) is = absurd (let never : ⊥ = cc in never)

  pub begin_case : IsAccepted decl → (net.clients a).front.doing ≡ Idle → (net.clients a).desk.voting ≡ None
      → (t : Option Transaction) → (net.clients a).front.transaction ≡ t
      → Refines decl (after_client net a (by_front (net.clients a) (begins decl (net.clients a).front t)))
  begin_case accepted rests free (Some t) is =
      nothing decl acts net a (by_front (net.clients a) (begins decl (net.clients a).front (Some t))) run m client up
      refl refl refl
  begin_case accepted rests free None is =
      refined decl w net a (by_front (net.clients a) (begins decl f None)) m client up
      (turns decl w net a (by_front (net.clients a) (begins decl f None)) (Begin tx f.epoch ∷ acts)
      (mid_begin decl w acts f.client (mid_first decl acts f.client run) tx f.epoch own.epoch.0 refl fresh_tx
      own.epoch.1) refl
      (record {
        own = record {
          actor = own.actor;
          desk = own.desk;
          epoch = own.epoch;
          desk_epoch = own.desk_epoch;
          clock = own.clock;
          lives_to_come =
              λ u mine later. put_tx_other w.status tx Active u
              (λ same. (let k : u.life ≡ f.life = ap (λ (t : TxId). t.life) same in absurd (omega arith)))
              ∙ own.lives_to_come u mine later;
          to_come =
              λ n later. put_tx_other w.status tx Active (name_at f n)
              (λ same. (let k : n ≡ f.count + 1 = ap (λ (t : TxId). t.number) same in absurd (omega arith)))
              ∙ own.to_come n (omega arith);
          committed =
              λ r among. (
                (own.committed r among).0,
                put_tx_other w.status tx Active r.tx
                    (λ same. (let k : NotBegun ≡ Committed r =
                    sym fresh_tx ∙ ap w.status (sym same) ∙ (own.committed r among).1 in
                    let never : ⊥ = cc in never)) ∙ (own.committed r among).1,
              );
          aborted = λ t its born other none.
              (let apart : t ≡ tx → ⊥ =
              (λ e. (let s : same_tx tx t ≡ true = same_tx_test tx t (sym e) in let never : ⊥ = cc in never)) in
              put_tx_other w.status tx Active t apart
              ∙ own.aborted t its (λ e. born (put_tx_other w.status tx Active t apart ∙ e))
              (subst (λ (x : Option Transaction). is_begun t x ≡ false) (sym is) refl) none);
        };
        begun = (
          record {
            named = named;
            epoch = sym (put_tx_here w.epoch tx f.epoch);
            lives = record {
              participants = λ g among its. absurd ((laws decl acts run).begun g among (ap w.status its ∙ fresh_tx));
              each = λ g among its. absurd ((laws decl acts run).begun g among (ap w.status its ∙ fresh_tx));
              positive = λ site has. absurd (let never : ⊥ = cc in never);
            };
            ops = ap (λ (ds : List Executed). map op_of ds) (sym no_operations);
            own = λ object. ap (λ (ds : List Executed). own_on ds object) (sym no_operations);
            sorted =
                λ object. subst (λ (ls : List Line). IsAscending ls) (sym (empty_log (length decl.objects) object)) tt;
            shown =
                λ object l among. absurd (subst (λ (ls : List Line). In l ls) (empty_log (length decl.objects) object)
                among);
            whole = λ l s. absurd ((laws decl acts run).begun s.grant s.counts (ap w.status s.its ∙ fresh_tx));
          },
          subst (λ (d : Doing). RunningMirrors decl (state (Begin tx f.epoch ∷ acts)) net.mail
              (record (net.clients a)
              { front = record f { count = f.count + 1; transaction = Some (fresh decl tx f.epoch); doing = d } })
              (fresh decl tx f.epoch)) (sym rests)
              (record {
                status_is = put_tx_here w.status tx Active ∙ sym (ap (λ (o : Option Voting). status_by o) free);
                chosen = λ e. nothing_chosen;
                counted = tt;
                calls = λ call never. absurd never;
                votes =
                    no_votes (record (net.clients a) {
                      front =
                          record f { count = f.count + 1; transaction = Some (fresh decl tx f.epoch); doing = Idle };
                    }) (fresh decl tx f.epoch) (state (Begin tx f.epoch ∷ acts)) (net.clients a).desk.voting free;
              }),
        );
      })
      (no_sends decl (state (Begin tx f.epoch ∷ acts)) net.mail a)
      (no_asks decl (by_front (net.clients a) (begins decl f None)).client))
    where
      w : State
      w = state acts

      f : Front
      f = (net.clients a).front

      tx : TxId
      tx = next_tx (net.clients a).front

      own : OwnMirrors decl (state acts) a (net.clients a) (net.clients a).front.transaction
      own = (m.clients a client up).own

      named : next_tx (net.clients a).front ≡ name_at (net.clients a).front ((net.clients a).front.count + 1)
      named = refl

      fresh_tx : (state acts).status (next_tx (net.clients a).front) ≡ NotBegun
      fresh_tx =
          ap (state acts).status named
          ∙ (m.clients a client up).own.to_come ((net.clients a).front.count + 1) (omega arith)

      no_operations : (state acts).executed (next_tx (net.clients a).front) ≡ []
      no_operations =
          In-none ((state acts).executed (next_tx (net.clients a).front))
          (λ d among. (log_laws decl accepted acts run).begun (next_tx (net.clients a).front) d (inl among) fresh_tx)

      nothing_chosen : (state acts).chosen (next_tx (net.clients a).front) ≡ None
      nothing_chosen = by ((state acts).chosen (next_tx (net.clients a).front)) refl
        where
          by : (o : Option Executed) → (state acts).chosen (next_tx (net.clients a).front) ≡ o → o ≡ None
          by None e = refl
          by (Some d) e =
              absurd ((log_laws decl accepted acts run).begun (next_tx (net.clients a).front) d (inr e) fresh_tx)
