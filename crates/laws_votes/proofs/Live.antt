-- Of a client that has begun a transaction in a run with falls, with an open input or without: the machine's
-- transaction is live, with the same operations, views and participants.
use Rattle.std.proofs.Common.{◌≡◌, ◌⊎◌, ◌<◌, ◌≤◌, ◌+◌, ◌-◌, ℕ, Bool, true, false, List, [], ◌∷◌, ◌++◌, inl, inr, map}
use Rattle.std.proofs.Common.{Option, Some, None, slice_get, refl, sym, ap, ◌∙◌, subst, arith}
use Rattle.std.proofs.lemmas.List.Sums.{fold-append}
use Rattle.laws_due.proofs.Standing.{IsAtInput, IsAtRest, Stands, account_is, account_more}
use Rattle.laws_due.specs.Vocabulary.{Ties}
use Rattle.qc_client.specs.declared.client.Client.{Client}
use Rattle.qc_core.specs.Vocabulary.{IsLawfulWithFalls, actor_after, is_up, up_at}
use Rattle.qc_decl.specs.Vocabulary.{IsAccepted, is_client}
use Rattle.qc_decl.specs.declared.declaration.Declaration.{Declaration}
use Rattle.qc_front.specs.declared.transaction.Transaction.{Transaction}
use Rattle.laws_guarantees.proofs.ClockLaw.{take_clock}
use Rattle.laws_votes.proofs.Clients.{client_at, slot_of}
use Rattle.laws_votes.proofs.Nets.{net, now, reached, refined}
use Rattle.laws_votes.proofs.Stamps.{client_due}
use Rattle.qc_list.specs.Vocabulary.{In}
use Rattle.qc_msg.specs.Vocabulary.{Deed, Entry, Takes, deeds, has_granted, life_of}
use Rattle.qc_msg.specs.declared.begun.LifeAt.{LifeAt}
use Rattle.qc_msg.specs.declared.record.Record.{Record}
use Rattle.laws_refinement.specs.Vocabulary.{BegunMirrors, ClientMirrors, RunningMirrors, TransactionMirrors}
use Rattle.laws_guarantees.proofs.Begun.{IsKept, WasBegun, logged, taken_kept, tied_kept}
use Rattle.laws_guarantees.proofs.FirstGrants.{same_lives}
use Rattle.laws_guarantees.proofs.Live.{Live, status_cases}
use Rattle.laws_guarantees.proofs.Persists.{IsNumbered}
use Rattle.laws_refinement.proofs.ClientKeeps.{clients_kept}
use Rattle.laws_reach.specs.Vocabulary.{HasTaken, records_of}
use Rattle.laws_votes.proofs.SameLife.{life_of as life_of_records}
use Rattle.laws_votes.proofs.Counts.{Counts, counts_all}
use Rattle.qc_promise.specs.Vocabulary.{Account, AreRepliesDue, Current, Kept, account, account_taken}
use Rattle.theory_machine.specs.Vocabulary.{Active, Granted, IsShown, State, op_of}
use Rattle.theory_machine.specs.State as machine
use Rattle.laws_reach.proofs.Stood.{in_client}
use Rattle.qc_script.specs.Vocabulary.{IsScriptFor, RunsWithFalls}
use Rattle.qc_script.specs.declared.script.Script.{Script}
use Rattle.qc_stamp.specs.declared.stamp.TxId.{TxId}
use Rattle.std.proofs.lemmas.List.{append-nil}
use Rattle.laws_reach.proofs.VerdictsLifelong.{same_client}

same_last : (xs ys : List Deed) (x y : Deed) → xs ++ x ∷ [] ≡ ys ++ y ∷ [] → xs ≡ ys
same_last [] [] x y is = refl
same_last [] (z ∷ []) x y is = absurd (let never : ⊥ = cc in never)
same_last [] (z ∷ w ∷ ys) x y is = absurd (let never : ⊥ = cc in never)
same_last (z ∷ []) [] x y is = absurd (let never : ⊥ = cc in never)
same_last (z ∷ w ∷ xs) [] x y is = absurd (let never : ⊥ = cc in never)
same_last (z ∷ xs) (w ∷ ys) x y is =
    let first : z ≡ w = cc in
    let rest : xs ++ x ∷ [] ≡ ys ++ y ∷ [] = cc in
    let more : xs ≡ ys = same_last xs ys x y rest in
    λ i. first i ∷ more i

none_begun : (o : Option Current) (t : Current) → o ≡ None → o ≡ Some t → ⊥
none_begun o t none some = let never : ⊥ = cc in never

module _ (fits : ℕ → List Record → Type 0) (decl : Declaration) (script : Script) (h : List Entry)
    (open_inputs : List Bool) (accepted : IsAccepted decl) (sound : IsScriptFor decl script)
    (run : RunsWithFalls (IsLawfulWithFalls decl) fits decl script h open_inputs) (kept : Kept h) (a : ℕ)
    (client : is_client decl a ≡ true) (t : Current) (begun : (account decl a h).current ≡ Some t) where
  abbrev ds : List Deed
  ds = deeds a [] h

  abbrev c : Client
  c = (net fits decl script h open_inputs accepted sound run kept).clients a

  abbrev then : State
  then = now fits decl script h open_inputs accepted sound run kept

  counts : (xs ys : List Deed) → ds ≡ xs ++ ys → Counts decl (account_is decl a xs)
  counts xs ys is = counts_all decl (a - decl.sites) xs ys
      (subst (AreRepliesDue decl (a - decl.sites)) is
      (client_due fits decl script h open_inputs accepted sound run kept a client))

  -- its number is at most what its client counts
  pub its_number : IsNumbered (account decl a h).count (account decl a h).current
  its_number = (counts ds [] (sym (append-nil ds))).numbered

  -- the client is tied to its account, now or before its open input
  pub record IsTiedTo : Type 0 where
    pub was : Account
    pub tied : Ties decl was c
    pub begun_then : WasBegun was.current t
    pub rises : was.clock ≤ (account decl a h).clock
    pub up : is_up ds ≡ true

  resting : IsAtRest decl a ds → slice_get open_inputs a ≡ Some false → IsTiedTo
  resting r slot = by r.up r.is r.stands
    where
      by : (up : Bool) → is_up ds ≡ up → Stands decl a up ds → IsTiedTo
      by true up s = record {
        was = account decl a h;
        tied = subst (Ties decl (account decl a h))
            (same_client s.state c (sym s.actor ∙ (reached fits decl script h open_inputs accepted sound run
            kept).actors_are a (inr (inl client)) up slot
            ∙ in_client decl (net fits decl script h open_inputs accepted sound run kept) a client)) s.ties;
        begun_then = record {
          old = t;
          was = begun;
          tx = refl;
          epoch = refl;
          ops = refl;
          view = λ object l among. among;
          lives = same_lives t.lives;
        };
        rises = omega arith;
        up = up;
      }
      by false down s = absurd (none_begun (account decl a h).current t
          ((counts ds [] (sym (append-nil ds))).down s.up) begun)

  at_input : IsAtInput decl a ds → slice_get open_inputs a ≡ Some true → IsTiedTo
  at_input at slot = by at.rest.up at.rest.is at.rest.stands
    where
      account_now : account decl a h ≡ account_taken (account_is decl a at.before) at.given
      account_now = ap (account_is decl a) at.is ∙ account_more decl a at.before (Takes at.given ∷ [])

      begun_before : WasBegun (account_is decl a at.before).current t
      begun_before = taken_kept (account_is decl a at.before) at.given t
          (sym (ap (λ (d : Account). d.current) account_now) ∙ begun)

      by : (up : Bool) → is_up at.before ≡ up → Stands decl a up at.before → IsTiedTo
      by false down s = absurd (none_begun (account_is decl a at.before).current begun_before.old
          ((counts at.before (Takes at.given ∷ []) at.is).down s.up) begun_before.was)
      by true up s =
          let up_now : is_up ds ≡ true = ap is_up at.is ∙ fold-append up_at true at.before (Takes at.given ∷ []) ∙ up in
          let x : HasTaken decl (net fits decl script h open_inputs accepted sound run kept) a h =
          (reached fits decl script h open_inputs accepted sound run kept).actors_were a
          (inr (inl client)) up_now slot in
          let before : at.before ≡ x.before = same_last at.before x.before (Takes at.given) (Takes x.given)
          (sym at.is ∙ x.deeds_are) in
          let rises : (account_is decl a at.before).clock ≤
          (account_taken (account_is decl a at.before) at.given).clock =
          take_clock decl (account_is decl a at.before) at.given in
          let now_is : (account decl a h).clock ≡ (account_taken (account_is decl a at.before) at.given).clock =
          ap (λ (d : Account). d.clock) account_now in
          record {
            was = account_is decl a at.before;
            tied = subst (Ties decl (account_is decl a at.before))
                (same_client s.state c (sym s.actor ∙ ap (λ (v : List Deed). (actor_after decl a v).actor) before
                ∙ x.was ∙ in_client decl (net fits decl script h open_inputs accepted sound run kept) a client)) s.ties;
            begun_then = begun_before;
            rises = omega arith;
            up = up_now;
          }

  o : IsTiedTo
  o = by (slot_of fits decl script h open_inputs accepted sound run kept a client)
    where
      by : (b : Bool) × (slice_get open_inputs a ≡ Some b) → IsTiedTo
      by (true, slot) = at_input (client_at fits decl script h open_inputs accepted sound run kept a client true slot)
          slot
      by (false, slot) = resting (client_at fits decl script h open_inputs accepted sound run kept a client false slot)
          slot

  abbrev w : WasBegun o.was.current t
  w = o.begun_then

  k : IsKept o.was c w.old
  k = tied_kept decl o.was c w.old o.tied w.was

  m : ClientMirrors decl then (net fits decl script h open_inputs accepted sound run kept).mail a c
  m = (refined fits decl script h open_inputs accepted sound run kept).agrees.clients a client
      ((reached fits decl script h open_inputs accepted sound run kept).up_is a (inr (inl client)) ∙ o.up)

  b : TransactionMirrors then c.front k.x × RunningMirrors decl then
      (net fits decl script h open_inputs accepted sound run kept).mail c k.x
  b = subst (BegunMirrors decl then (net fits decl script h open_inputs accepted sound run kept).mail c) k.transaction
      m.begun

  named : k.x.begun.tx ≡ t.tx
  named = ap (λ (y : Transaction). y.begun.tx) k.begun.is ∙ sym w.tx

  clients_own : t.tx.client ≡ c.front.client
  clients_own = ap (λ (x : TxId). x.client) (sym named ∙ b.0.named)

  pub live : Live then t (account decl a h).clock
  live = record {
    active = subst (λ (x : TxId). (then.status x ≡ Active) ⊎ (then.status x ≡ machine.Voting)) named
        (status_cases c.desk.voting (then.status k.x.begun.tx) b.1.status_is);
    ops = w.ops ∙ sym (ap (λ (y : Transaction). y.begun.ops) k.begun.is)
        ∙ subst (λ (x : TxId). k.x.begun.ops ≡ map op_of (then.executed x)) named b.0.ops;
    view = λ l shown. w.view l.object l (logged w.old k.x k.begun l.object l
        (b.0.whole l (subst (λ (x : TxId). IsShown then.counted x l) (sym named) shown)));
    passed = (
        let low : then.clock c.front.client ≤ c.front.clock.value = m.own.clock in
        let own : then.clock t.tx.client ≡ then.clock c.front.client = ap then.clock clients_own in
        let mid : c.front.clock.value ≤ o.was.clock = k.clock in
        let rises : o.was.clock ≤ (account decl a h).clock = o.rises in
        omega arith
        );
  }

  -- its epoch is the machine's
  pub epoch_named : t.epoch ≡ then.epoch t.tx
  epoch_named = w.epoch ∙ sym (ap (λ (y : Transaction). y.begun.epoch) k.begun.is) ∙ b.0.epoch ∙ ap then.epoch named

  -- it is up, and its transaction is of the life that its records give
  pub is_up_now : is_up ds ≡ true
  is_up_now = o.up

  pub life_named : t.tx.life ≡ life_of_records (records_of h a)
  life_named =
      ap (λ (x : TxId). x.life) (sym named ∙ b.0.named)
      ∙ (clients_kept decl (net fits decl script h open_inputs accepted sound run kept)
      (reached fits decl script h open_inputs accepted sound run kept).reached a client
      ((reached fits decl script h open_inputs accepted sound run kept).up_is a (inr (inl client)) ∙ o.up)).life
      ∙ ap life_of_records ((reached fits decl script h open_inputs accepted sound run kept).records_are a
      (inr (inl client)))

  -- it is its client's own
  pub client_named : t.tx.client ≡ a - decl.sites
  client_named =
      let own : t.tx.client ≡ c.front.client = clients_own in
      let actor : a ≡ decl.sites + c.front.client = m.own.actor in
      omega arith

  -- each site whose grant the machine counted is a participant, in the life of that grant
  pub record IsParticipant (g : Granted) : Type 0 where
    pub granted : has_granted t.lives g.site ≡ true
    pub life : life_of t.lives g.site ≡ g.life
    pub some : 0 < g.life

  pub participant : (g : Granted) → In g then.counted → g.tx ≡ t.tx → IsParticipant g
  participant g counted its =
      let same : k.x.begun.lives ≡ w.old.lives = ap (λ (y : Transaction). y.begun.lives) k.begun.is in
      let has : has_granted k.x.begun.lives g.site ≡ true = b.0.lives.participants g counted (its ∙ sym named) in
      let keeps = w.lives g.site (subst (λ (ls : List LifeAt). has_granted ls g.site ≡ true) same has) in
      let life : g.life ≡ life_of k.x.begun.lives g.site = b.0.lives.each g counted (its ∙ sym named) in
      let some : 0 < life_of k.x.begun.lives g.site = b.0.lives.positive g.site has in
      record {
        granted = keeps.0;
        life = keeps.1 ∙ ap (λ (ls : List LifeAt). life_of ls g.site) (sym same) ∙ sym life;
        some = omega arith;
      }
