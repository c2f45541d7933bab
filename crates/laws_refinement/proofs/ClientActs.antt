-- The machine's acts in a client's turn: those of an operation.
use Rattle.std.proofs.Common.{◌≡◌, ◌<◌, ℕ, suc, ◌==◌, ◌&&◌, ◌+◌, nat_lt, true, ◌⊎◌, inl, inr, List, [], ◌∷◌, ◌++◌, map}
use Rattle.std.proofs.Common.{filter, length, Option, Some, None, refl, sym, ap, ◌∙◌, subst, eqb-true, arith}
use Rattle.std.proofs.lemmas.Bool.{lt-ltb}
use Rattle.qc_list.specs.Vocabulary.{In}
use Rattle.qc_list.proofs.Members.{In-filter, In-first, In-passes, In-unfiltered, In-either, In-map}
use Rattle.qc_entry.specs.declared.line.Op.{Op}
use Rattle.qc_entry.specs.declared.line.OwnLine.{OwnLine}
use Rattle.qc_table.specs.declared.kind.Kind.{Kind}
use Rattle.qc_decl.specs.declared.declaration.Declaration.{Declaration}
use Rattle.qc_decl.specs.Vocabulary.{append_need_of, read_need_of}
use Rattle.theory_onecopy.specs.Vocabulary.{IsAnswered}
use Rattle.theory_onecopy.proofs.Lists.{Mapped, map_in}
use Rattle.theory_machine.specs.Vocabulary.{Act, Active, Choose, Count, Execute, ExecuteAbsent, Granted, HasQuorum}
use Rattle.theory_machine.specs.Vocabulary.{IsAppendOf, IsExecutedFrom, Lock, Own, SendAppend, State, chosen_list}
use Rattle.theory_machine.specs.Vocabulary.{op_of, state}
use Rattle.qc_front.specs.declared.transaction.Transaction.{Transaction}
use Rattle.qc_front.specs.Vocabulary.{next_own, own_appended, own_on, resp_of, view_log, weighs}
use Rattle.qc_client.specs.declared.client.Client.{Client}
use Rattle.laws_refinement.specs.Vocabulary.{IsNamedAt, absent_of, append_of, chosen_of, own_item}
use Rattle.laws_refinement.proofs.ClientSteps.{Core, Mid, elsewhere, mid_more, mine}
use Rattle.laws_refinement.proofs.Machine.{put_other}
use Rattle.qc_list.proofs.Booleans.{and_first}

length_of : {A B : Type 0} (f : A → B) (xs : List A) → length (map f xs) ≡ length xs
length_of f [] = refl
length_of f (x ∷ xs) = ap suc (length_of f xs)

module _ (decl : Declaration) where
  -- own lines of an Append are the transaction's, of the object

  pub appended_own : (t : Transaction) (object event : ℕ) (o : OwnLine) → In o (own_appended decl t object event)
      → (o ≡ next_own t object event) ⊎ In o (own_on t.own object)
  appended_own t object event o h = elim (In-either o (filter (weighs decl t.begun.epoch object) t.own)
      (next_own t object event ∷ []) h) [
        | inl old ↦ inr (In-filter (λ (l : OwnLine). l.object == object) o t.own
            (In-unfiltered (weighs decl t.begun.epoch object) o t.own old)
            (and_first (o.object == object) (nat_lt 0 (append_need_of decl t.begun.epoch object o.event))
            (In-passes (weighs decl t.begun.epoch object) o t.own old)))
        | inr new ↦ elim new [ inl same ↦ inl same | inr never ↦ absurd never ]
      ]

  pub appended_on : (t : Transaction) (object event : ℕ) (o : OwnLine) → In o (own_appended decl t object event)
      → o.object ≡ object
  appended_on t object event o h = elim (appended_own t object event o h) [
    | inl same ↦ ap (λ (x : OwnLine). x.object) same
    | inr old ↦ eqb-true o.object object (In-passes (λ (l : OwnLine). l.object == object) o t.own old)
  ]

  is_append : (t : Transaction) (object inv event : ℕ)
      → IsAppendOf decl t.begun.epoch (chosen_of decl t object inv event) (append_of decl t object event)
  is_append t object inv event = record {
    view = refl;
    items = λ x among. (let r : Mapped own_item x (own_appended decl t object event) =
        map_in own_item x (own_appended decl t object event) among in
        (r.from, r.is, appended_own t object event r.from r.listed));
    whole = λ o among heavy. In-map own_item o (own_appended decl t object event)
        (In-first o (filter (weighs decl t.begun.epoch object) t.own) (next_own t object event ∷ [])
        (In-filter (weighs decl t.begun.epoch object) o t.own
        (In-unfiltered (λ (l : OwnLine). l.object == object) o t.own among) (test o among heavy)));
  }
    where
      test : (o : OwnLine) → In o (own_on t.own object) → 0 < append_need_of decl t.begun.epoch o.object o.event
          → ((o.object == object) && nat_lt 0 (append_need_of decl t.begun.epoch object o.event)) ≡ true
      test o among heavy =
          let on : (o.object == object) ≡ true = In-passes (λ (l : OwnLine). l.object == object) o t.own among in
          let h : 0 < append_need_of decl t.begun.epoch object o.event =
          subst (λ (k : ℕ). 0 < append_need_of decl t.begun.epoch k o.event) (eqb-true o.object object on) heavy in
          let l : nat_lt 0 (append_need_of decl t.begun.epoch object o.event) ≡ true =
          lt-ltb 0 (append_need_of decl t.begun.epoch object o.event) h in
          rw (on, l) refl

  -- the operation that the client is to execute is one that the machine allows

  is_executed : (w : State) (a : ℕ) (c : Client) (t : Transaction) (object inv event : ℕ) (resp : Option ℕ)
      → Core decl w a c t → IsNamedAt decl object inv
      → IsAnswered decl (record {
        number = length t.begun.ops + 1;
        op = record { object = object; inv = inv; resp = resp };
        event = event;
        view = view_log t object;
        own = own_on t.own object;
      })
      → HasQuorum decl t.begun.epoch w.counted t.begun.tx (Lock (record { object = object; inv = inv }))
      (read_need_of decl t.begun.epoch object inv)
      → IsExecutedFrom decl t.begun.epoch w.counted (w.executed t.begun.tx) t.begun.tx
      (record {
        number = length t.begun.ops + 1;
        op = record { object = object; inv = inv; resp = resp };
        event = event;
        view = view_log t object;
        own = own_on t.own object;
      })
  is_executed w a c t object inv event resp k named answered met = record {
    answered = answered;
    known = λ kind typed. (let both : Some named.0 ≡ Some kind = sym named.1
        ∙ typed in let same : named.0 ≡ kind = cc in subst (λ (x : Kind). inv < x.table.invs) same named.2);
    numbered = (let e : length t.begun.ops ≡ length (w.executed t.begun.tx) = ap (λ (l : List Op). length l) k.begun.ops
        ∙ length_of op_of (w.executed t.begun.tx) in omega arith);
    own = k.begun.own object;
    shown = λ l among. k.begun.shown object l among;
    whole = λ l s on. subst (λ (n : ℕ). In l (view_log t n)) on (k.begun.whole l s);
    met = met;
  }

  module _ (w : State) (acts : List Act) (n : ℕ) (m : Mid decl w acts n) where
    pub mid_choose : (a : ℕ) (c : Client) (t : Transaction) (object inv event : ℕ) → c.front.client ≡ n
        → Core decl (state acts) a c t → (state acts).chosen t.begun.tx ≡ None → IsNamedAt decl object inv
        → IsAnswered decl (chosen_of decl t object inv event)
        → HasQuorum decl t.begun.epoch (state acts).counted t.begun.tx (Lock (record { object = object; inv = inv }))
        (read_need_of decl t.begun.epoch object inv)
        → Mid decl w (Choose t.begun.tx (chosen_of decl t object inv event) ∷ acts) n
    mid_choose a c t object inv event its core none named answered met =
        mid_more decl w acts n (Choose t.begun.tx (chosen_of decl t object inv event)) m (
          core.active,
          none,
          subst (λ (e : ℕ). IsExecutedFrom decl e (state acts).counted
              ((state acts).executed t.begun.tx) t.begun.tx (chosen_of decl t object inv event)) core.begun.epoch
              (is_executed (state acts) a c t object inv event
              (Some (resp_of decl object event)) core named answered met),
          refl,
        ) tt
        (λ d other. record {
          status = λ u h. refl;
          epoch = λ u h. refl;
          executed = λ u h. refl;
          clock = refl;
          counted = λ g theirs h. h;
          more = λ g h. h;
          votes = λ x h. h;
          appends = λ s h. h;
          chosen = λ u h. elsewhere (state acts).chosen t.begun.tx (Some (chosen_of decl t object inv event)) u n d
              (mine decl (state acts) a c t core ∙ its) h other;
        })

    pub mid_send : (t : Transaction) (object inv event : ℕ) → t.begun.epoch ≡ (state acts).epoch t.begun.tx
        → (state acts).chosen t.begun.tx ≡ Some (chosen_of decl t object inv event)
        → Mid decl w (SendAppend (append_of decl t object event) ∷ acts) n
    mid_send t object inv event epoch chosen =
        mid_more decl w acts n (SendAppend (append_of decl t object event)) m (
          chosen_of decl t object inv event,
          chosen,
          subst (λ (e : ℕ). IsAppendOf decl e (chosen_of decl t object inv event) (append_of decl t object event))
              epoch (is_append t object inv event),
        ) tt
        (λ d other. record {
          status = λ u h. refl;
          epoch = λ u h. refl;
          executed = λ u h. refl;
          clock = refl;
          counted = λ g theirs h. h;
          more = λ g h. h;
          votes = λ x h. h;
          appends = λ s h. inr h;
          chosen = λ u h. refl;
        })

    pub mid_absent : (a : ℕ) (c : Client) (t : Transaction) (object inv : ℕ) → c.front.client ≡ n
        → Core decl (state acts) a c t → (state acts).chosen t.begun.tx ≡ None → IsNamedAt decl object inv
        → IsAnswered decl (absent_of t object inv)
        → HasQuorum decl t.begun.epoch (state acts).counted t.begun.tx (Lock (record { object = object; inv = inv }))
        (read_need_of decl t.begun.epoch object inv)
        → Mid decl w (ExecuteAbsent t.begun.tx (absent_of t object inv) ∷ acts) n
    mid_absent a c t object inv its core none named answered met =
        mid_more decl w acts n (ExecuteAbsent t.begun.tx (absent_of t object inv)) m (
          core.active,
          none,
          subst (λ (e : ℕ). IsExecutedFrom decl e (state acts).counted
              ((state acts).executed t.begun.tx) t.begun.tx (absent_of t object inv)) core.begun.epoch
              (is_executed (state acts) a c t object inv 0 None core named answered met),
          refl,
        ) tt
        (λ d other. record {
          status = λ u h. refl;
          epoch = λ u h. refl;
          clock = refl;
          counted = λ g theirs h. h;
          more = λ g h. h;
          votes = λ x h. h;
          appends = λ s h. h;
          executed = λ u h. elsewhere (state acts).executed t.begun.tx
              ((state acts).executed t.begun.tx ++ absent_of t object inv ∷ []) u n d
              (mine decl (state acts) a c t core ∙ its) h other;
          chosen = λ u h. elsewhere (state acts).chosen t.begun.tx None u n d
              (mine decl (state acts) a c t core ∙ its) h other;
        })

    pub mid_execute : (a : ℕ) (c : Client) (t : Transaction) (object inv event : ℕ) → c.front.client ≡ n
        → Core decl (state acts) a c t → (state acts).chosen t.begun.tx ≡ Some (chosen_of decl t object inv event)
        → HasQuorum decl t.begun.epoch (state acts).counted t.begun.tx (Own (next_own t object event))
        (append_need_of decl t.begun.epoch object event) → Mid decl w (Execute t.begun.tx ∷ acts) n
    mid_execute a c t object inv event its core chosen met =
        mid_more decl w acts n (Execute t.begun.tx) m (
          chosen_of decl t object inv event,
          chosen,
          subst (λ (e : ℕ). HasQuorum decl e (state acts).counted t.begun.tx (Own (next_own t object event))
              (append_need_of decl e object event)) core.begun.epoch met,
        ) tt
        (λ d other. record {
          status = λ u h. refl;
          epoch = λ u h. refl;
          clock = refl;
          counted = λ g theirs h. h;
          more = λ g h. h;
          votes = λ x h. h;
          appends = λ s h. h;
          executed = λ u h. elsewhere (state acts).executed t.begun.tx
              ((state acts).executed t.begun.tx ++ chosen_list ((state acts).chosen t.begun.tx)) u n d
              (mine decl (state acts) a c t core ∙ its) h other;
          chosen = λ u h. elsewhere (state acts).chosen t.begun.tx None u n d
              (mine decl (state acts) a c t core ∙ its) h other;
        })

    pub mid_count : (g : Granted) → In g (state acts).granted → (state acts).status g.tx ≡ Active
        → g.epoch ≡ (state acts).epoch g.tx → g.tx.client ≡ n → Mid decl w (Count g ∷ acts) n
    mid_count g given active current its =
        mid_more decl w acts n (Count g) m
        (given, active, current) tt
        (λ d other. record {
          status = λ u h. refl;
          epoch = λ u h. refl;
          executed = λ u h. refl;
          chosen = λ u h. refl;
          votes = λ x h. h;
          appends = λ s h. h;
          more = λ x h. inr h;
          clock = put_other (state acts).clock g.tx.client _ d (λ e. other (e ∙ its));
          counted = λ x theirs h. elim h [
            | inl same ↦ absurd
                (other (sym theirs ∙ ap (λ (y : Granted). y.tx.client) same ∙ its))
            | inr old ↦ old
          ];
        })
