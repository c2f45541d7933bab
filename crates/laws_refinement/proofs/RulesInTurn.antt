-- Whatever falls, each Decide record of the administrator is of the epoch after the last one.
use Rattle.std.specs.Prelude.{◌&&◌, Bool, cond, is_none, option_to_list}
use Rattle.std.specs.Option.{option_map_or}
use Rattle.std.proofs.Common.{◌≡◌, ◌≢◌, ℕ, suc, ◌+◌, true, false, inl, inr, List, [], ◌∷◌, ◌++◌, fold, length, Option}
use Rattle.std.proofs.Common.{Some, None, refl, sym, ap, ◌∙◌, subst}
use Rattle.std.proofs.lemmas.List.{append-nil}
use Rattle.qc_decl.specs.Vocabulary.{IsAccepted, administrator, is_client, is_site}
use Rattle.qc_decl.specs.declared.declaration.Declaration.{Declaration}
use Rattle.qc_msg.specs.declared.message.Message.{Message}
use Rattle.qc_msg.specs.declared.record.Record.{Record}
use Rattle.qc_msg.specs.declared.record.Record.TheVariants as records
use Rattle.qc_msg.specs.declared.turn.Posting.{Posting}
use Rattle.qc_msg.specs.Vocabulary.{decide_in, request_in, start_with, wants_answer}
use Rattle.theory_machine.specs.Vocabulary.{put}
use Rattle.theory_machine.proofs.Names.{put_here}
use Rattle.qc_epoch.specs.Vocabulary.{Admin, AdminMove, admin_takes, doing, requested, sent_one}
use Rattle.qc_msg.specs.declared.payload.EpochStart.{EpochStart}
use Rattle.qc_recover.specs.Vocabulary.{epoch_by}
use Rattle.qc_recover.specs.Admins.{keeps, kept_by}
use Rattle.laws_refinement.specs.Vocabulary.{AreInTurn, IsGivenBack, IsNextRule, Net, Reaches, Refines, all_sent}
use Rattle.laws_refinement.specs.Vocabulary.{rule_after}
use Rattle.laws_refinement.specs.Net as nets
use Rattle.laws_refinement.proofs.AdminCases.{admin_case}
use Rattle.laws_refinement.proofs.AdminStands.{IsInTurn, rule_more}
use Rattle.laws_refinement.proofs.Kepts.{no_ruler, no_ruling}
use Rattle.laws_refinement.proofs.Machine.{put_other}
use Rattle.laws_refinement.proofs.Refining.{nets_refine}

-- one record more

epoch_one : (k : Option EpochStart) (r : Record) → epoch_by (keeps k r) ≡ rule_after (epoch_by k) r
epoch_one k r = by (decide_in r)
  where
    by : (o : Option EpochStart)
        → epoch_by (option_map_or (λ (start : EpochStart). Some start) o k)
        ≡ option_map_or (λ (start : EpochStart). start.epoch) o (epoch_by k)
    by None = refl
    by (Some start) = refl

turn_from : (k : Option EpochStart) (rs : List Record) (r : Record) → AreInTurn (epoch_by k) rs
    → IsNextRule (epoch_by (fold keeps k rs)) r → AreInTurn (epoch_by k) (rs ++ r ∷ [])
turn_from k [] r old new = (new, tt)
turn_from k (x ∷ xs) r old new = (
  old.0,
  subst (λ (e : ℕ). AreInTurn e (xs ++ r ∷ [])) (epoch_one k x)
      (turn_from (keeps k x) xs r (subst (λ (e : ℕ). AreInTurn e xs) (sym (epoch_one k x)) old.1) new),
)

turn_more : (rs : List Record) (r : Record) → AreInTurn 1 rs → IsNextRule (epoch_by (kept_by rs)) r
    → AreInTurn 1 (rs ++ r ∷ [])
turn_more rs r old new = turn_from None rs r old new

abbrev IsNextOf : ℕ → Option Record → Type 0
IsNextOf epoch None = Unit {0}
IsNextOf epoch (Some r) = IsNextRule epoch r

turn_maybe : (rs : List Record) (o : Option Record) → AreInTurn 1 rs → IsNextOf (epoch_by (kept_by rs)) o
    → AreInTurn 1 (rs ++ option_to_list o)
turn_maybe rs None old new = subst (λ (xs : List Record). AreInTurn 1 xs) (sym (append-nil rs)) old
turn_maybe rs (Some r) old new = turn_more rs r old new

-- numbers of messages leave the epoch

sent_epoch : (m : Admin) (n to : ℕ) (message : Message) → (sent_one m n to message).epoch ≡ m.epoch
sent_epoch m n to message = by (wants_answer message && is_none (request_in message))
  where
    by : (b : Bool) → (cond b (doing m (requested m.doing n to)) m).epoch ≡ m.epoch
    by true = refl
    by false = refl

all_epoch : (m : Admin) (n : ℕ) (ps : List Posting) → (all_sent m n ps).epoch ≡ m.epoch
all_epoch m n [] = refl
all_epoch m n (p ∷ ps) = all_epoch (sent_one m n p.to p.message) (n + 1) ps ∙ sent_epoch m n p.to p.message

module _ (decl : Declaration) (accepted : IsAccepted decl) where
  -- his records are in turn, he goes on from them, and what is pending comes next
  record InTurn (net : Net) : Type 0 where
    turn : AreInTurn 1 (net.records (administrator decl))
    here : net.up (administrator decl) ≡ true → net.admin.epoch ≡ epoch_by (kept_by (net.records (administrator decl)))
    next : net.up (administrator decl) ≡ false
        → IsNextOf (epoch_by (kept_by (net.records (administrator decl)))) (net.pending (administrator decl))

  -- what others do leaves him alone
  same : (net next : Net) → next.records (administrator decl) ≡ net.records (administrator decl)
      → next.up (administrator decl) ≡ net.up (administrator decl)
      → next.pending (administrator decl) ≡ net.pending (administrator decl) → next.admin ≡ net.admin → InTurn net
      → InTurn next
  same net next rs up pending admin i = record {
    turn = subst (λ (xs : List Record). AreInTurn 1 xs) (sym rs) i.turn;
    here = λ u. ap (λ (m : Admin). m.epoch) admin ∙ i.here (sym up ∙ u)
        ∙ ap (λ (xs : List Record). epoch_by (kept_by xs)) (sym rs);
    next = λ d. subst (λ (xs : List Record). IsNextOf (epoch_by (kept_by xs)) (next.pending (administrator decl)))
        (sym rs) (subst (λ (o : Option Record). IsNextOf (epoch_by (kept_by (net.records (administrator decl)))) o)
        (sym pending) (i.next (sym up ∙ d)));
  }

  no_site : (a : ℕ) → is_site decl a ≡ true → administrator decl ≢ a
  no_site a site e = no_ruler decl (subst (λ (k : ℕ). is_site decl k ≡ true) (sym e) site)

  no_client : (a : ℕ) → is_client decl a ≡ true → administrator decl ≢ a
  no_client a client e = no_ruling decl (subst (λ (k : ℕ). is_client decl k ≡ true) (sym e) client)

  -- one that falls in a turn of his own
  falls : (net : Net) (o : Option Record) (sends : List Posting) → InTurn net
      → IsNextOf (epoch_by (kept_by (net.records (administrator decl)))) o
      → InTurn (nets.after_fall net (administrator decl) o sends)
  falls net o sends i new = record {
    turn = i.turn;
    here = λ u. absurd (let e : put net.up (administrator decl) false (administrator decl) ≡ false =
        put_here net.up (administrator decl) false in let never : ⊥ = cc in never);
    next = λ d. subst (λ (x : Option Record). IsNextOf (epoch_by (kept_by (net.records (administrator decl)))) x)
        (sym (put_here net.pending (administrator decl) o)) new;
  }

  -- another falls
  other_falls : (a : ℕ) (net : Net) (o : Option Record) (sends : List Posting) → administrator decl ≢ a → InTurn net
      → InTurn (nets.after_fall net a o sends)
  other_falls a net o sends other i = same net (nets.after_fall net a o sends) refl
      (put_other net.up a false (administrator decl) other)
      (put_other net.pending a o (administrator decl) other) refl i

  other_rises : (a : ℕ) (net : Net) (back : Option Record) → administrator decl ≢ a → InTurn net
      → InTurn (nets.after_vain_rise net a back)
  other_rises a net back other i = same net (nets.after_vain_rise net a back)
      (put_other net.records a (net.records a ++ option_to_list back) (administrator decl) other) refl
      (put_other net.pending a (Some records.Life) (administrator decl) other) refl i

  module _ (net : Net) (i : InTurn net) (back : Option Record) (down : net.up (administrator decl) ≡ false)
      (given : IsGivenBack net (administrator decl) back) where
    is_next : IsNextOf (epoch_by (kept_by (net.records (administrator decl)))) back
    is_next = elim given [
      | inl none ↦ subst (λ (o : Option Record). IsNextOf (epoch_by (kept_by (net.records (administrator decl)))) o)
          (sym none) tt
      | inr its ↦ subst (λ (o : Option Record). IsNextOf (epoch_by (kept_by (net.records (administrator decl)))) o)
          (sym its) (i.next down)
    ]

    stood : AreInTurn 1 (net.records (administrator decl) ++ option_to_list back)
    stood = turn_maybe (net.records (administrator decl)) back i.turn is_next

    rises_in_vain : InTurn (nets.after_vain_rise net (administrator decl) back)
    rises_in_vain = record {
      turn = subst (λ (xs : List Record). AreInTurn 1 xs)
          (sym (put_here net.records (administrator decl) (net.records (administrator decl) ++ option_to_list back)))
          stood;
      here = λ u. absurd (let never : ⊥ = cc in never);
      next = λ d. subst (λ (o : Option Record). IsNextOf
          (epoch_by (kept_by (put net.records (administrator decl)
          (net.records (administrator decl) ++ option_to_list back) (administrator decl)))) o)
          (sym (put_here net.pending (administrator decl) (Some records.Life))) tt;
    }

    rises : InTurn (nets.after_admin_rise decl net back)
    rises = record {
      turn = subst (λ (xs : List Record). AreInTurn 1 xs) (sym now)
          (turn_more (net.records (administrator decl) ++ option_to_list back) records.Life stood tt);
      here = λ u. ap (λ (xs : List Record). epoch_by (kept_by xs)) (sym now);
      next = λ d. absurd (let e : put net.up (administrator decl) true (administrator decl) ≡ true =
          put_here net.up (administrator decl) true in let never : ⊥ = cc in never);
    }
      where
        now : put net.records (administrator decl)
            ((net.records (administrator decl) ++ option_to_list back) ++ records.Life ∷ []) (administrator decl) ≡
            (net.records (administrator decl) ++ option_to_list back) ++ records.Life ∷ []
        now = put_here net.records (administrator decl)
            ((net.records (administrator decl) ++ option_to_list back) ++ records.Life ∷ [])

  -- his turn
  administers : (net : Net) (move : AdminMove) → InTurn net → net.up (administrator decl) ≡ true
      → IsInTurn net.admin.epoch move → InTurn (nets.after_admin decl net move)
  administers net move i up went = record {
    turn = subst (λ (xs : List Record). AreInTurn 1 xs) (sym now) (elim went [
      | inl rests ↦ subst (λ (o : Option Record). AreInTurn 1 (net.records (administrator decl) ++ option_to_list o))
          (sym rests.0) (turn_maybe (net.records (administrator decl)) None i.turn tt)
      | inr d ↦ subst (λ (o : Option Record). AreInTurn 1 (net.records (administrator decl) ++ option_to_list o))
          (sym d.wrote)
          (turn_more (net.records (administrator decl)) (records.Decide (start_with d.next d.clock d.lines)) i.turn
          (d.follows ∙ ap (λ (n : ℕ). suc n) (i.here up)))
    ]);
    here = λ u. all_epoch move.admin (length net.mail) move.turn.sends ∙ then_is
        ∙ ap (λ (xs : List Record). epoch_by (kept_by xs)) (sym now);
    next = λ d. absurd (let never : ⊥ = cc in never);
  }
    where
      now : put net.records (administrator decl) (net.records (administrator decl) ++ option_to_list move.turn.write)
          (administrator decl) ≡ net.records (administrator decl) ++ option_to_list move.turn.write
      now = put_here net.records (administrator decl)
          (net.records (administrator decl) ++ option_to_list move.turn.write)

      then_is : move.admin.epoch ≡ epoch_by (kept_by
          (net.records (administrator decl) ++ option_to_list move.turn.write))
      then_is = elim went [
        | inl rests ↦ subst (λ (o : Option Record). move.admin.epoch ≡ epoch_by
            (kept_by (net.records (administrator decl) ++ option_to_list o))) (sym rests.0)
            (rests.1 ∙ i.here up ∙ ap (λ (xs : List Record). epoch_by (kept_by xs))
            (sym (append-nil (net.records (administrator decl)))))
        | inr d ↦ subst (λ (o : Option Record). move.admin.epoch ≡ epoch_by
            (kept_by (net.records (administrator decl) ++ option_to_list o))) (sym d.wrote)
            (d.then_is ∙ ap epoch_by (sym (rule_more (net.records (administrator decl))
            (records.Decide (start_with d.next d.clock d.lines)))))
      ]

  -- the record that a turn would write comes next
  would_be : (net : Net) (move : AdminMove) (r : Record) → InTurn net → net.up (administrator decl) ≡ true
      → IsInTurn net.admin.epoch move → move.turn.write ≡ Some r
      → IsNextRule (epoch_by (kept_by (net.records (administrator decl)))) r
  would_be net move r i up (inl rests) wrote =
      absurd (let both : None ≡ Some r = sym rests.0 ∙ wrote in let never : ⊥ = cc in never)
  would_be net move r i up (inr d) wrote =
      let both : Some (records.Decide (start_with d.next d.clock d.lines)) ≡ Some r = sym d.wrote ∙ wrote in
      let is : records.Decide (start_with d.next d.clock d.lines) ≡ r = cc in
      subst (λ (x : Record). IsNextRule (epoch_by (kept_by (net.records (administrator decl)))) x) is
      (d.follows ∙ ap (λ (n : ℕ). suc n) (i.here up))

  in_turn : (net : Net) → Reaches decl net → InTurn net
  in_turn net nets.begins = record { turn = tt; here = λ u. refl; next = λ d. absurd (let never : ⊥ = cc in never) }
  in_turn net (nets.serves a given before r site up came) =
      same before net (put_other before.records a _ (administrator decl) (no_site a site)) refl refl refl
      (in_turn before r)
  in_turn net (nets.takes a given before r client up came ready) =
      same before net (put_other before.records a _ (administrator decl) (no_client a client)) refl refl refl
      (in_turn before r)
  in_turn net (nets.administers given before r up came named) =
      let h : Refines decl before = nets_refine decl accepted before r in
      administers before (admin_takes decl before.admin given) (in_turn before r) up
      (admin_case decl h.acts before h.run h.agrees up given came named).2
  in_turn net (nets.site_falls a before r site up) = other_falls a before None [] (no_site a site) (in_turn before r)
  in_turn net (nets.client_falls a before r client up) =
      other_falls a before None [] (no_client a client) (in_turn before r)
  in_turn net (nets.admin_falls before r up) = falls before None [] (in_turn before r) tt
  in_turn net (nets.site_fails a given written sends before r site up came wrote failed) =
      other_falls a before (Some written) sends (no_site a site) (in_turn before r)
  in_turn net (nets.client_fails a given written sends before r client up came ready wrote failed) =
      other_falls a before (Some written) sends (no_client a client) (in_turn before r)
  in_turn net (nets.admin_fails given written sends before r up came named wrote failed) =
      let h : Refines decl before = nets_refine decl accepted before r in
      falls before (Some written) sends (in_turn before r)
      (would_be before (admin_takes decl before.admin given) written (in_turn before r) up
      (admin_case decl h.acts before h.run h.agrees up given came named).2 wrote)
  in_turn net (nets.site_rises_up a back before r site down given) =
      same before net (put_other before.records a _ (administrator decl) (no_site a site))
      (put_other before.up a true (administrator decl) (no_site a site))
      (put_other before.pending a None (administrator decl) (no_site a site)) refl (in_turn before r)
  in_turn net (nets.client_rises_up a back before r client down given) =
      same before net (put_other before.records a _ (administrator decl) (no_client a client))
      (put_other before.up a true (administrator decl) (no_client a client))
      (put_other before.pending a None (administrator decl) (no_client a client)) refl (in_turn before r)
  in_turn net (nets.admin_rises_up back before r down given) = rises before (in_turn before r) back down given
  in_turn net (nets.site_rises_in_vain a back before r site down given) =
      other_rises a before back (no_site a site) (in_turn before r)
  in_turn net (nets.client_rises_in_vain a back before r client down given) =
      other_rises a before back (no_client a client) (in_turn before r)
  in_turn net (nets.admin_rises_in_vain back before r down given) =
      rises_in_vain before (in_turn before r) back down given

  pub epochs_are_decided_in_turn : (net : Net) → Reaches decl net → AreInTurn 1 (net.records (administrator decl))
  epochs_are_decided_in_turn net r = (in_turn net r).turn
