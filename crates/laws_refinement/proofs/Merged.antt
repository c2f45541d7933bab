-- What an epoch is decided from, by members: the merged log, the clock, and the questions that are settled.
use Rattle.std.proofs.Common.{◌≡◌, ◌≤◌, ℕ, max, Bool, true, false, cond, ◌⊎◌, inl, inr, List, [], ◌∷◌, Option, Some}
use Rattle.std.proofs.Common.{None, fold, refl, sym, ap, ◌∙◌, subst, arith}
use Rattle.qc_stamp.specs.declared.stamp.Stamp.{Stamp}
use Rattle.qc_stamp.specs.declared.stamp.TxId.{TxId}
use Rattle.qc_stamp.specs.Vocabulary.{same_tx}
use Rattle.qc_stamp.proofs.Orders.{same_tx_is, same_tx_test}
use Rattle.qc_list.specs.Vocabulary.{In}
use Rattle.qc_entry.specs.declared.line.Line.{Line}
use Rattle.qc_entry.specs.declared.line.OwnLine.{OwnLine}
use Rattle.qc_entry.specs.declared.record.Prepared.{Prepared}
use Rattle.qc_entry.specs.Vocabulary.{IsAscending, union}
use Rattle.qc_entry.proofs.Union.{ascending-union, in_either, in_first, in_second}
use Rattle.qc_msg.specs.declared.message.Outcome.{Outcome}
use Rattle.qc_msg.specs.declared.message.Outcome.TheVariants.{Committed, Aborted, Active}
use Rattle.theory_machine.specs.Vocabulary.{State, Verdict}
use Rattle.qc_site.specs.Vocabulary.{stamped}
use Rattle.qc_epoch.specs.Vocabulary.{Question, ShutSite, clock_in, first_doubt, greatest, is_settled, merged}
use Rattle.qc_epoch.specs.Vocabulary.{promised_lines, stamp_in, stamp_of, with_promised, with_shut}
use Rattle.laws_refinement.specs.Vocabulary.{IsTaken}
use Rattle.laws_refinement.proofs.Promises.{ascending-stamped, in_stamped, stamped_in}

-- a line of a promise, with its transaction's stamp
pub record IsLineOf (questions : List Question) (p : Prepared) (l : Line) : Type 0 where
  pub stamp : Stamp
  pub told : stamp_of questions p.tx ≡ Some stamp
  pub own : OwnLine
  pub has : In own p.own
  pub is : l ≡ stamped stamp p.tx own

-- where a merged line comes from: a site's log, or one of its promises
abbrev pub IsFrom : List Question → ShutSite → Line → Type 0
IsFrom questions s l = In l s.log ⊎ ((p : Prepared) × In p s.prepared × IsLineOf questions p l)

abbrev pub IsFromOne : List ShutSite → List Question → Line → Type 0
IsFromOne shuts questions l = (s : ShutSite) × In s shuts × IsFrom questions s l

module _ (questions : List Question) where
  promised_from : (p : Prepared) (o : Option Stamp) (l : Line) → stamp_of questions p.tx ≡ o → In l (promised_lines p o)
      → IsLineOf questions p l
  promised_from p None l is h = absurd h
  promised_from p (Some stamp) l is h = elim (in_stamped stamp p.tx p.own [] l h) [
    | inl never ↦ absurd never
    | inr r ↦ record { stamp = stamp; told = is; own = r.0; has = r.1; is = r.2 }
  ]

  promised_into : (p : Prepared) (o : Option Stamp) (l : Line) → stamp_of questions p.tx ≡ o → IsLineOf questions p l
      → In l (promised_lines p o)
  promised_into p None l is h = absurd (let e : stamp_of questions p.tx ≡ Some h.stamp = h.told in let never : ⊥ = cc in
      never)
  promised_into p (Some stamp) l is h =
      let e : stamp_of questions p.tx ≡ Some h.stamp = h.told in
      let same : h.stamp ≡ stamp = cc in
      stamped_in stamp p.tx p.own [] l (inr (h.own, h.has, h.is ∙ ap (λ (t : Stamp). stamped t p.tx h.own) same))

  promises_from : (ps : List Prepared) (lines : List Line) (l : Line) → In l (fold (with_promised questions) lines ps)
      → In l lines ⊎ ((p : Prepared) × In p ps × IsLineOf questions p l)
  promises_from [] lines l h = inl h
  promises_from (p ∷ ps) lines l h = elim (promises_from ps (with_promised questions lines p) l h) [
    | inl old ↦ elim (in_either l lines (promised_lines p (stamp_of questions p.tx)) old) [
      | inl older ↦ inl older
      | inr its ↦ inr (p, inl refl, promised_from p (stamp_of questions p.tx) l refl its)
    ]
    | inr r ↦ inr (r.0, inr r.1, r.2)
  ]

  promises_keep : (ps : List Prepared) (lines : List Line) (l : Line) → In l lines
      → In l (fold (with_promised questions) lines ps)
  promises_keep [] lines l h = h
  promises_keep (p ∷ ps) lines l h = promises_keep ps (with_promised questions lines p) l
      (in_first l lines (promised_lines p (stamp_of questions p.tx)) h)

  promises_into : (ps : List Prepared) (lines : List Line) (l : Line) (p : Prepared) → In p ps → IsLineOf questions p l
      → In l (fold (with_promised questions) lines ps)
  promises_into [] lines l p among h = absurd among
  promises_into (q ∷ ps) lines l p (inl same) h =
      promises_keep ps (with_promised questions lines q) l
      (in_second l lines (promised_lines q (stamp_of questions q.tx))
      (promised_into q (stamp_of questions q.tx) l refl (subst (λ (x : Prepared). IsLineOf questions x l) same h)))
  promises_into (q ∷ ps) lines l p (inr among) h = promises_into ps (with_promised questions lines q) l p among h

  shuts_from : (ss : List ShutSite) (lines : List Line) (l : Line) → In l (fold (with_shut questions) lines ss)
      → In l lines ⊎ IsFromOne ss questions l
  shuts_from [] lines l h = inl h
  shuts_from (s ∷ ss) lines l h = elim (shuts_from ss (with_shut questions lines s) l h) [
    | inl old ↦ elim (promises_from s.prepared (union lines s.log) l old) [
      | inl both ↦ elim (in_either l lines s.log both) [ inl older ↦ inl older | inr its ↦ inr (s, inl refl, inl its) ]
      | inr r ↦ inr (s, inl refl, inr r)
    ]
    | inr r ↦ inr (r.0, inr r.1, r.2)
  ]

  shuts_keep : (ss : List ShutSite) (lines : List Line) (l : Line) → In l lines
      → In l (fold (with_shut questions) lines ss)
  shuts_keep [] lines l h = h
  shuts_keep (s ∷ ss) lines l h = shuts_keep ss (with_shut questions lines s) l
      (promises_keep s.prepared (union lines s.log) l (in_first l lines s.log h))

  one_into : (s : ShutSite) (lines : List Line) (l : Line) → IsFrom questions s l → In l (with_shut questions lines s)
  one_into s lines l (inl h) = promises_keep s.prepared (union lines s.log) l (in_second l lines s.log h)
  one_into s lines l (inr r) = promises_into s.prepared (union lines s.log) l r.0 r.1 r.2

  shuts_into : (ss : List ShutSite) (lines : List Line) (l : Line) (s : ShutSite) → In s ss → IsFrom questions s l
      → In l (fold (with_shut questions) lines ss)
  shuts_into [] lines l s among h = absurd among
  shuts_into (t ∷ ss) lines l s (inl same) h =
      shuts_keep ss (with_shut questions lines t) l
      (one_into t lines l (subst (λ (x : ShutSite). IsFrom questions x l) same h))
  shuts_into (t ∷ ss) lines l s (inr among) h = shuts_into ss (with_shut questions lines t) l s among h

  ascending_promises : (ps : List Prepared) (lines : List Line) → IsAscending lines
      → IsAscending (fold (with_promised questions) lines ps)
  ascending_promises [] lines a = a
  ascending_promises (p ∷ ps) lines a = ascending_promises ps (with_promised questions lines p)
      (ascending-union lines (promised_lines p (stamp_of questions p.tx)) a (by (stamp_of questions p.tx)))
    where
      by : (o : Option Stamp) → IsAscending (promised_lines p o)
      by None = tt
      by (Some stamp) = ascending-stamped stamp p.tx p.own [] tt

  ascending_shuts : (ss : List ShutSite) (lines : List Line) → IsAscending lines
      → ((s : ShutSite) → In s ss → IsAscending s.log) → IsAscending (fold (with_shut questions) lines ss)
  ascending_shuts [] lines a each = a
  ascending_shuts (s ∷ ss) lines a each = ascending_shuts ss (with_shut questions lines s)
      (ascending_promises s.prepared (union lines s.log) (ascending-union lines s.log a (each s (inl refl))))
      (λ t among. each t (inr among))

pub merged_from : (shuts : List ShutSite) (questions : List Question) (l : Line) → In l (merged shuts questions)
    → IsFromOne shuts questions l
merged_from shuts questions l h = elim (shuts_from questions shuts [] l h) [ inl never ↦ absurd never | inr r ↦ r ]

pub merged_into : (shuts : List ShutSite) (questions : List Question) (l : Line) (s : ShutSite) → In s shuts
    → IsFrom questions s l → In l (merged shuts questions)
merged_into shuts questions l s among h = shuts_into questions shuts [] l s among h

pub merged_ascends : (shuts : List ShutSite) (questions : List Question)
    → ((s : ShutSite) → In s shuts → IsAscending s.log) → IsAscending (merged shuts questions)
merged_ascends shuts questions each = ascending_shuts questions shuts [] tt each

-- the clock has passed each that was told, and each stamp

shut_grows : (ss : List ShutSite) (n : ℕ) → n ≤ fold (λ (clock : ℕ) (s : ShutSite). max clock s.clock) n ss
shut_grows [] n = omega arith
shut_grows (s ∷ ss) n = let more : max n s.clock ≤ fold (λ (clock : ℕ) (t : ShutSite). max clock t.clock)
    (max n s.clock) ss = shut_grows ss (max n s.clock) in omega arith

shut_passes : (ss : List ShutSite) (n : ℕ) (s : ShutSite) → In s ss
    → s.clock ≤ fold (λ (clock : ℕ) (t : ShutSite). max clock t.clock) n ss
shut_passes [] n s among = absurd among
shut_passes (t ∷ ss) n s (inl same) =
    let e : s.clock ≡ t.clock = ap (λ (x : ShutSite). x.clock) same in
    let more : max n t.clock ≤ fold (λ (clock : ℕ) (x : ShutSite). max clock x.clock) (max n t.clock) ss =
    shut_grows ss (max n t.clock) in
    omega arith
shut_passes (t ∷ ss) n s (inr among) = shut_passes ss (max n t.clock) s among

in_grows : (n : ℕ) (o : Option Stamp) → n ≤ clock_in n o
in_grows n None = omega arith
in_grows n (Some stamp) = omega arith

question_grows : (qs : List Question) (n : ℕ)
    → n ≤ fold (λ (clock : ℕ) (q : Question). clock_in clock (stamp_in q.taken)) n qs
question_grows [] n = omega arith
question_grows (q ∷ qs) n =
    let one : n ≤ clock_in n (stamp_in q.taken) = in_grows n (stamp_in q.taken) in
    let more : clock_in n (stamp_in q.taken) ≤ fold (λ (clock : ℕ) (x : Question). clock_in clock (stamp_in x.taken))
    (clock_in n (stamp_in q.taken)) qs = question_grows qs (clock_in n (stamp_in q.taken)) in
    omega arith

question_passes : (qs : List Question) (n : ℕ) (q : Question) (stamp : Stamp) → In q qs → stamp_in q.taken ≡ Some stamp
    → stamp.clock ≤ fold (λ (clock : ℕ) (x : Question). clock_in clock (stamp_in x.taken)) n qs
question_passes [] n q stamp among is = absurd among
question_passes (x ∷ qs) n q stamp (inl same) is =
    let e : stamp_in x.taken ≡ Some stamp = ap (λ (y : Question). stamp_in y.taken) (sym same) ∙ is in
    let here : clock_in n (stamp_in x.taken) ≡ max n stamp.clock = ap (λ (o : Option Stamp). clock_in n o) e in
    let more : clock_in n (stamp_in x.taken) ≤ fold (λ (clock : ℕ) (y : Question). clock_in clock (stamp_in y.taken))
    (clock_in n (stamp_in x.taken)) qs = question_grows qs (clock_in n (stamp_in x.taken)) in
    omega arith
question_passes (x ∷ qs) n q stamp (inr among) is = question_passes qs (clock_in n (stamp_in x.taken)) q stamp among is

pub greatest_shut : (shuts : List ShutSite) (questions : List Question) (s : ShutSite) → In s shuts
    → s.clock ≤ greatest shuts questions
greatest_shut shuts questions s among =
    let one : s.clock ≤ fold (λ (clock : ℕ) (t : ShutSite). max clock t.clock) 0 shuts = shut_passes shuts 0 s among in
    let more : fold (λ (clock : ℕ) (t : ShutSite). max clock t.clock) 0 shuts ≤ greatest shuts questions =
    question_grows questions (fold (λ (clock : ℕ) (t : ShutSite). max clock t.clock) 0 shuts) in
    omega arith

pub greatest_stamp : (shuts : List ShutSite) (questions : List Question) (q : Question) (stamp : Stamp) → In q questions
    → stamp_in q.taken ≡ Some stamp → stamp.clock ≤ greatest shuts questions
greatest_stamp shuts questions q stamp among is =
    question_passes questions (fold (λ (clock : ℕ) (t : ShutSite). max clock t.clock) 0 shuts) q stamp among is

-- where none is in doubt, each is settled
pub all_settled : (qs : List Question) → first_doubt qs ≡ None → (q : Question) → In q qs → is_settled q.taken ≡ true
all_settled [] none q among = absurd among
all_settled (x ∷ qs) none q among = by (is_settled x.taken) refl none (λ e h. all_settled qs e q h) among
  where
    by : (b : Bool) → is_settled x.taken ≡ b → cond b (first_doubt qs) (Some x) ≡ None
        → (first_doubt qs ≡ None → In q qs → is_settled q.taken ≡ true) → (q ≡ x) ⊎ In q qs → is_settled q.taken ≡ true
    by true is e rest (inl same) = subst (λ (y : Question). is_settled y.taken ≡ true) (sym same) is
    by true is e rest (inr h) = rest e h
    by false is e rest h = absurd (let never : ⊥ = cc in never)

-- a transaction that is asked about, where all is settled: it committed with the stamp that counts, or it aborted
pub record IsCommittedBy (w : State) (qs : List Question) (tx : TxId) : Type 0 where
  pub stamp : Stamp
  pub told : stamp_of qs tx ≡ Some stamp
  pub verdict : In {X = Verdict} (record { tx = tx; stamp = Some stamp }) w.verdicts
  pub question : Question
  pub among : In question qs
  pub its : stamp_in question.taken ≡ Some stamp

abbrev pub IsEnded : State → List Question → TxId → Type 0
IsEnded w qs tx = IsCommittedBy w qs tx ⊎ In {X = Verdict} (record { tx = tx; stamp = None }) w.verdicts

pub ended : (w : State) (qs : List Question) (tx : TxId) → ((q : Question) → In q qs → is_settled q.taken ≡ true)
    → ((q : Question) → In q qs → IsTaken w q.tx q.taken) → (q : Question) → In q qs → q.tx ≡ tx → IsEnded w qs tx
ended w [] tx settled taken q among its = absurd among
ended w (x ∷ qs) tx settled taken q among its =
    by (same_tx x.tx tx) refl (λ h. ended w qs tx (λ y k. settled y (inr k)) (λ y k. taken y (inr k)) q h its) among
  where
    here : x.tx ≡ tx → same_tx x.tx tx ≡ true → (o : Option (Option Outcome)) → x.taken ≡ o → is_settled o ≡ true
        → IsTaken w x.tx o → IsEnded w (x ∷ qs) tx
    here same is None e s t = absurd (let never : ⊥ = cc in never)
    here same is (Some None) e s t = absurd (let never : ⊥ = cc in never)
    here same is (Some (Some (Committed stamp))) e s t = inl (record {
      stamp = stamp;
      told = rw is (ap (λ (o : Option (Option Outcome)). stamp_in o) e);
      verdict = subst (λ (u : TxId). In {X = Verdict} (record { tx = u; stamp = Some stamp }) w.verdicts) same t;
      question = x;
      among = inl refl;
      its = ap (λ (o : Option (Option Outcome)). stamp_in o) e;
    })
    here same is (Some (Some Aborted)) e s t =
        inr (subst (λ (u : TxId). In {X = Verdict} (record { tx = u; stamp = None }) w.verdicts) same t)
    here same is (Some (Some Active)) e s t = absurd (let never : ⊥ = cc in never)

    rest : same_tx x.tx tx ≡ false → IsEnded w qs tx → IsEnded w (x ∷ qs) tx
    rest other (inl c) = inl (record {
      stamp = c.stamp;
      told = rw other c.told;
      verdict = c.verdict;
      question = c.question;
      among = inr c.among;
      its = c.its;
    })
    rest other (inr a) = inr a

    by : (b : Bool) → same_tx x.tx tx ≡ b → (In q qs → IsEnded w qs tx) → (q ≡ x) ⊎ In q qs → IsEnded w (x ∷ qs) tx
    by true is more h = here (same_tx_is x.tx tx is) is x.taken refl (settled x (inl refl)) (taken x (inl refl))
    by false other more (inl same) = absurd (let is : same_tx x.tx tx ≡ true =
        same_tx_test x.tx tx (ap (λ (y : Question). y.tx) (sym same) ∙ its) in let never : ⊥ = cc in never)
    by false other more (inr h) = rest other (more h)

-- the stamp that counts for a transaction was told of it
pub stamp_told : (w : State) (qs : List Question) (tx : TxId) (stamp : Stamp)
    → ((q : Question) → In q qs → IsTaken w q.tx q.taken) → stamp_of qs tx ≡ Some stamp
    → In {X = Verdict} (record { tx = tx; stamp = Some stamp }) w.verdicts
stamp_told w [] tx stamp taken is = absurd (let never : ⊥ = cc in never)
stamp_told w (x ∷ qs) tx stamp taken is =
    by (same_tx x.tx tx) refl (λ e. stamp_told w qs tx stamp (λ y k. taken y (inr k)) e) is
  where
    here : (o : Option (Option Outcome)) → IsTaken w x.tx o → x.tx ≡ tx → stamp_in o ≡ Some stamp
        → In {X = Verdict} (record { tx = tx; stamp = Some stamp }) w.verdicts
    here None t same e = absurd (let never : ⊥ = cc in never)
    here (Some None) t same e = absurd (let never : ⊥ = cc in never)
    here (Some (Some (Committed s))) t same e = let k : s ≡ stamp = cc in
        subst (λ (z : Stamp). In {X = Verdict} (record { tx = tx; stamp = Some z }) w.verdicts) k
        (subst (λ (u : TxId). In {X = Verdict} (record { tx = u; stamp = Some s }) w.verdicts) same t)
    here (Some (Some Aborted)) t same e = absurd (let never : ⊥ = cc in never)
    here (Some (Some Active)) t same e = absurd (let never : ⊥ = cc in never)

    by : (b : Bool) → same_tx x.tx tx ≡ b → (stamp_of qs tx ≡ Some stamp
        → In {X = Verdict} (record { tx = tx; stamp = Some stamp }) w.verdicts)
        → cond b (stamp_in x.taken) (stamp_of qs tx) ≡ Some stamp
        → In {X = Verdict} (record { tx = tx; stamp = Some stamp }) w.verdicts
    by true same rest e = here x.taken (taken x (inl refl)) (same_tx_is x.tx tx same) e
    by false other rest e = rest e
