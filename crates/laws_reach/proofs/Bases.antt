-- What ties a client's account to its dealings in one transaction: how a transaction begins, goes on, and ends.
use Rattle.std.proofs.Common.{[], ◌≡◌, ◌<◌, ◌≤◌, ◌⊎◌, inl, inr, ℕ, ◌+◌, Bool, true, false, cond, List, ◌++◌, Option}
use Rattle.std.proofs.Common.{Some, None, option_map, refl, sym, ap, ◌∙◌, subst, arith}
use Rattle.std.proofs.lemmas.List.{append-nil}
use Rattle.qc_stamp.specs.Vocabulary.{same_tx}
use Rattle.qc_stamp.proofs.Orders.{same_tx_is, same_tx_itself}
use Rattle.qc_stamp.specs.declared.stamp.TxId.{TxId}
use Rattle.qc_entry.specs.declared.line.Op.{Op}
use Rattle.qc_msg.specs.declared.reply.Reply.{Reply}
use Rattle.qc_msg.specs.declared.step.Command.{Command}
use Rattle.qc_msg.specs.declared.step.Command.TheVariants as commands
use Rattle.qc_promise.specs.Vocabulary.{Dealing, dealt, is_begun, operation}
use Rattle.laws_reach.proofs.Gists.{Gist, Going, finished, replied, with_call}
use Rattle.qc_list.proofs.Booleans.{not_both}
use Rattle.qc_list.proofs.Options.{some_same}

-- nothing is something

abbrev IsSomeOf : {X : Type 0} → Option X → Type 0
IsSomeOf None = ⊥
IsSomeOf (Some x) = Unit {0}

pub none_some : {X : Type 0} (x : X) (o : Option X) → o ≡ None → o ≡ Some x → ⊥
none_some x o none some = subst IsSomeOf (sym some ∙ none) tt

abbrev some_or : {X : Type 0} → X → Option X → X
some_or x None = x
some_or x (Some y) = y

abbrev IsTrue : Bool → Type 0
IsTrue true = Unit {0}
IsTrue false = ⊥

module _ (tx : TxId) (ops : List Op) where
  abbrev pub IsBehind : Bool → Gist → Type 0
  IsBehind off g =
      (tx.life < g.life) ⊎ (((tx.life ≡ g.life) × (tx.number ≤ g.count)) ⊎ ((tx.life ≤ g.life) × (off ≡ true)))

  -- the transaction is its client's, and no later one has its name
  abbrev pub IsPast : Bool → Gist → Type 0
  IsPast off g = (tx.client ≡ g.client) × IsBehind off g

  pub record Base (off : Bool) (g : Gist) (x : Dealing) : Type 0 where
    pub asked : (command : Command) → g.command ≡ Some command → x.asked ≡ Some command
    pub begun : x.begun ≡ option_map (λ (o : Going). o.tx) g.begun
    pub down : off ≡ true → g.begun ≡ None
    pub told : (o : Going) → g.begun ≡ Some o → o.tx ≡ tx → (x.ops ≡ o.ops) × IsPast off g
    pub fresh : IsPast off g ⊎ (x.ops ≡ [])

  pub record Settled (off : Bool) (g : Gist) (x : Dealing) : Type 0 where
    pub same : ops ≡ x.ops
    pub past : IsPast off g
    pub quiet : (o : Going) → g.begun ≡ Some o → o.tx ≡ tx → g.command ≡ Some commands.Commit

  pub record Both (off : Bool) (g : Gist) (x : Dealing) (K : Type 0) : Type 0 where
    pub base : Base off g x
    pub known : K → Settled off g x

  pub both_as : (off next : Bool) (g k : Gist) (x : Dealing) (K L : Type 0) → next ≡ off → k ≡ g → (L → K)
      → Both off g x K → Both next k x L
  both_as off next g k x K L is same known s =
      subst (λ (b : Bool). Both b k x L) (sym is)
      (subst (λ (e : Gist). Both off e x L) (sym same) (record { base = s.base; known = λ l. s.known (known l) }))

  -- a command is called where none runs
  pub called : (off : Bool) (g : Gist) (x : Dealing) (K : Type 0) (command : Command) → g.command ≡ None
      → Both off g x K → Both off (with_call g command) (record x { asked = Some command }) K
  called off g x K command none s = record {
    base =
        record {
          asked = λ other is. is;
          begun = s.base.begun;
          down = s.base.down;
          told = s.base.told;
          fresh = s.base.fresh;
        };
    known = λ k. (let t : Settled off g x = s.known k in record {
      same = t.same;
      past = t.past;
      quiet = λ o is named. absurd (none_some commands.Commit g.command none (t.quiet o is named));
    });
  }

  -- a reply that changes nothing
  pub answered : (off : Bool) (g : Gist) (x : Dealing) (K : Type 0)
      → ((o : Going) → g.begun ≡ Some o → g.command ≡ Some commands.Commit → ⊥) → Both off g x K
      → Both off (replied g) x K
  answered off g x K never s = record {
    base =
        record {
          asked = λ command is. absurd (none_some command None refl is);
          begun = s.base.begun;
          down = s.base.down;
          told = s.base.told;
          fresh = s.base.fresh;
        };
    known =
        λ k. (let t : Settled off g x = s.known k in
        record { same = t.same; past = t.past; quiet = λ o is named. absurd (never o is (t.quiet o is named)) });
  }

  -- the transaction ends, by a reply or by a fall

  off_behind : (off next : Bool) (g : Gist) → (next ≡ off) ⊎ (next ≡ true) → IsBehind off g → IsBehind next g
  off_behind off next g how (inl before) = inl before
  off_behind off next g how (inr (inl at)) = inr (inl at)
  off_behind off next g (inl same) (inr (inr at)) = inr (inr (at.0, same ∙ at.1))
  off_behind off next g (inr is) (inr (inr at)) = inr (inr (at.0, is))

  pub off_past : (off next : Bool) (g : Gist) → (next ≡ off) ⊎ (next ≡ true) → IsPast off g → IsPast next g
  off_past off next g how past = (past.0, off_behind off next g how past.1)

  off_fresh : (off next : Bool) (g : Gist) (x : Dealing) → (next ≡ off) ⊎ (next ≡ true) → IsPast off g ⊎ (x.ops ≡ [])
      → IsPast next g ⊎ (x.ops ≡ [])
  off_fresh off next g x how (inl past) = inl (off_past off next g how past)
  off_fresh off next g x how (inr none) = inr none

  pub ends : (off next : Bool) (g : Gist) (x : Dealing) (es : List Reply) (K : Type 0) → (next ≡ off) ⊎ (next ≡ true)
      → Both off g x K → Both next (finished g) (record x { begun = None; ends = es }) K
  ends off next g x es K how s = record {
    base = record {
      asked = λ command is. absurd (none_some command None refl is);
      begun = refl;
      down = λ is. refl;
      told = λ o is named. absurd (none_some o None refl is);
      fresh = off_fresh off next g x how s.base.fresh;
    };
    known =
        λ k. (let t : Settled off g x = s.known k in
        record {
          same = t.same;
          past = off_past off next g how t.past;
          quiet = λ o is named. absurd (none_some o None refl is);
        });
  }

  -- a transaction begins, which is a new one

  abbrev pub begun_with : Gist → TxId → Gist
  begun_with g other =
      record g { count = g.count + 1; command = None; written = None; begun = Some (record { tx = other; ops = [] }) }

  not_behind : (g : Gist) (other : TxId) → other.life ≡ g.life → other.number ≡ g.count + 1 → other ≡ tx
      → IsBehind false g → ⊥
  not_behind g other life number named (inl before) =
      let same : other.life ≡ tx.life = ap (λ (t : TxId). t.life) named in omega arith
  not_behind g other life number named (inr (inl at)) =
      let low : tx.number ≤ g.count = at.1 in
      let same : other.number ≡ tx.number = ap (λ (t : TxId). t.number) named in omega arith
  not_behind g other life number named (inr (inr at)) = not_both false at.1 refl

  pub not_new : (g : Gist) (other : TxId) → other.life ≡ g.life → other.number ≡ g.count + 1 → other ≡ tx
      → IsPast false g → ⊥
  not_new g other life number named past = not_behind g other life number named past.1

  next_behind : (g : Gist) (other : TxId) → IsBehind false g → IsBehind false (begun_with g other)
  next_behind g other (inl before) = inl before
  next_behind g other (inr (inl at)) = let low : tx.number ≤ g.count = at.1 in inr (inl (at.0, omega arith))
  next_behind g other (inr (inr at)) = inr (inr at)

  pub next_past : (g : Gist) (other : TxId) → IsPast false g → IsPast false (begun_with g other)
  next_past g other past = (past.0, next_behind g other past.1)

  pub begins : (g : Gist) (x : Dealing) (K : Type 0) (other : TxId) → other.client ≡ g.client → other.life ≡ g.life
      → other.number ≡ g.count + 1 → Both false g x K
      → Both false (begun_with g other) (record x { begun = Some other }) K
  begins g x K other client life number s = record {
    base = record {
      asked = λ command is. absurd (none_some command None refl is);
      begun = refl;
      down = λ is. absurd (not_both false is refl);
      told =
          λ o is named. (let at : record { tx = other; ops = [] } ≡ o =
          some_same (record { tx = other; ops = [] }) o is in
          new o at (ap (λ (e : Going). e.tx) at ∙ named) s.base.fresh);
      fresh = fresh s.base.fresh;
    };
    known = λ k. (let t : Settled false g x = s.known k in record {
      same = t.same;
      past = next_past g other t.past;
      quiet =
          λ o is named. absurd (not_new g other life number
          (ap (λ (e : Going). e.tx) (some_same (record { tx = other; ops = [] }) o is) ∙ named) t.past);
    });
  }
    where
      named_past : other ≡ tx → IsPast false (begun_with g other)
      named_past named = (
        sym (ap (λ (t : TxId). t.client) named) ∙ client,
        inr (inl (
          sym (ap (λ (t : TxId). t.life) named) ∙ life,
          (let same : other.number ≡ tx.number = ap (λ (t : TxId). t.number) named in omega arith),
        )),
      )

      new : (o : Going) → record { tx = other; ops = [] } ≡ o → other ≡ tx → IsPast false g ⊎ (x.ops ≡ [])
          → (x.ops ≡ o.ops) × IsPast false (begun_with g other)
      new o at named (inl past) = absurd (not_new g other life number named past)
      new o at named (inr none) = (none ∙ ap (λ (e : Going). e.ops) at, named_past named)

      fresh : IsPast false g ⊎ (x.ops ≡ []) → IsPast false (begun_with g other) ⊎ (x.ops ≡ [])
      fresh (inl past) = inl (next_past g other past)
      fresh (inr none) = inr none

  -- an operation is told
  module _ (off : Bool) (g : Gist) (x : Dealing) (K : Type 0) (o : Going) (resp : Option ℕ) (more : List Op)
      (is : g.begun ≡ Some o) (operation_is : operation x.asked resp ≡ more)
      (never : g.command ≡ Some commands.Commit → ⊥) (s : Both off g x K) where
    begun_is : is_begun tx x.begun ≡ same_tx o.tx tx
    begun_is = ap (is_begun tx) (s.base.begun ∙ ap (λ (b : Option Going). option_map (λ (e : Going). e.tx) b) is)

    abbrev after : List Op → Gist
    after os = record g { command = None; written = None; begun = Some (record { tx = o.tx; ops = os }) }

    told_one : same_tx o.tx tx ≡ true → dealt tx x resp ≡ record x { ops = x.ops ++ more }
    told_one same =
        ap (λ (b : Bool). record x { ops = x.ops ++ cond b (operation x.asked resp) [] }) (begun_is ∙ same)
        ∙ ap (λ (os : List Op). record x { ops = x.ops ++ os }) operation_is

    told_other : same_tx o.tx tx ≡ false → dealt tx x resp ≡ x
    told_other other =
        ap (λ (b : Bool). record x { ops = x.ops ++ cond b (operation x.asked resp) [] }) (begun_is ∙ other)
        ∙ ap (λ (os : List Op). record x { ops = os }) (append-nil x.ops)

    begun_after : x.begun ≡ Some o.tx
    begun_after = s.base.begun ∙ ap (λ (b : Option Going). option_map (λ (e : Going). e.tx) b) is

    off_not : off ≡ true → ⊥
    off_not down = none_some o g.begun (s.base.down down) is

    one : same_tx o.tx tx ≡ true → Both off (after (o.ops ++ more)) (record x { ops = x.ops ++ more }) K
    one same = record {
      base = record {
        asked = λ command at. absurd (none_some command None refl at);
        begun = begun_after;
        down = λ down. absurd (off_not down);
        told =
            λ e at named. (
              ap (λ (os : List Op). os ++ more) here.0
                  ∙ ap (λ (v : Going). v.ops) (some_same (record { tx = o.tx; ops = o.ops ++ more }) e at),
              here.1,
            );
        fresh = inl here.1;
      };
      known = λ k. (let t : Settled off g x = s.known k in absurd (never (t.quiet o is (same_tx_is o.tx tx same))));
    }
      where
        here : (x.ops ≡ o.ops) × IsPast off g
        here = s.base.told o is (same_tx_is o.tx tx same)

    another : same_tx o.tx tx ≡ false → Both off (after (o.ops ++ more)) x K
    another other = record {
      base = record {
        asked = λ command at. absurd (none_some command None refl at);
        begun = begun_after;
        down = λ down. absurd (off_not down);
        told = λ e at named. absurd (differs e at named);
        fresh = s.base.fresh;
      };
      known =
          λ k. (let t : Settled off g x = s.known k in
          record { same = t.same; past = t.past; quiet = λ e at named. absurd (differs e at named) });
    }
      where
        differs : (e : Going) → Some (record { tx = o.tx; ops = o.ops ++ more }) ≡ Some e → e.tx ≡ tx → ⊥
        differs e at named =
            let is_tx : o.tx ≡ tx =
            ap (λ (v : Going). v.tx) (some_same (record { tx = o.tx; ops = o.ops ++ more }) e at) ∙ named in
            not_both (same_tx o.tx tx) (ap (λ (t : TxId). same_tx t tx) is_tx ∙ same_tx_itself tx) other

    pub adds : Both off (after (o.ops ++ more)) (dealt tx x resp) K
    adds = by (same_tx o.tx tx) refl
      where
        by : (b : Bool) → same_tx o.tx tx ≡ b → Both off (after (o.ops ++ more)) (dealt tx x resp) K
        by true same = subst (λ (y : Dealing). Both off (after (o.ops ++ more)) y K) (sym (told_one same)) (one same)
        by false other =
            subst (λ (y : Dealing). Both off (after (o.ops ++ more)) y K) (sym (told_other other)) (another other)
