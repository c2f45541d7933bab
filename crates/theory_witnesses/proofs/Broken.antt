-- A guarantee is found to be broken.
use Rattle.std.proofs.Common.{◌≡◌, ℕ, zero, suc, ◌+◌, ◌<◌, ◌≤◌, ◌==◌, Bool, true, false, List, [], ◌∷◌, Option, Some}
use Rattle.std.proofs.Common.{None, slice_get, option_map, inl, inr, refl, sym, ap, ◌∙◌, subst, arith}
use Rattle.std.proofs.lemmas.Bool.{eqb-false}
use Rattle.qc_stamp.specs.declared.stamp.Stamp.{Stamp}
use Rattle.qc_stamp.specs.declared.stamp.TxId.{TxId}
use Rattle.qc_entry.specs.declared.line.Line.{Line}
use Rattle.qc_entry.specs.declared.line.Op.{Op}
use Rattle.qc_entry.specs.declared.record.Commit.{Commit as CommitRecord}
use Rattle.qc_decl.specs.declared.declaration.Declaration.{Declaration}
use Rattle.theory_onecopy.specs.Vocabulary.{AreApart, Goes, IsLogged, IsOperation, Walks, event_at, operations, sorted}
use Rattle.theory_onecopy.specs.Vocabulary.{start_at, step_at, updated}
use Rattle.qc_list.specs.Vocabulary.{In}
use Rattle.theory_machine.specs.Vocabulary.{Act, Commit, Granted, HasEarlier, IsVerdictOf, OfSite, Shows, State}
use Rattle.theory_machine.specs.Vocabulary.{Verdict, site_after, state}
use Rattle.theory_witnesses.proofs.Cases.{none_some, one_some}
use Rattle.theory_witnesses.proofs.Alike.{alike_tx, same_stamp}
use Rattle.theory_witnesses.proofs.Finding.{IsFound, at_most, both, every, some, where_same_tx}
use Rattle.theory_witnesses.proofs.Quorums.{shows}
use Rattle.theory_witnesses.specs.Vocabulary.{Holds, LastRecordFollowsSeen, LogsHoldOperations, RecordsAreApart}
use Rattle.theory_witnesses.specs.Vocabulary.{RecordsAreOneCopy, VerdictsAgree}
use Rattle.qc_table.specs.Vocabulary.{event}

abbrev pub other_number : (a b : ℕ) → Option (a ≡ b → ⊥)
other_number a b = by (a == b) refl
  where
    by : (t : Bool) → (a == b) ≡ t → Option (a ≡ b → ⊥)
    by true e = None
    by false e = Some (eqb-false a b e)

-- the first that was found
abbrev pub or_else : {P : Type 0} → Option P → Option P → Option P
or_else (Some p) o = Some p
or_else None o = o

-- no one copy goes on with this operation
pub no_row : (o : Option ℕ) → o ≡ None → (n : ℕ) → o ≡ Some n → ⊥
no_row o e n f = none_some (sym e ∙ f)

pub row_is : (o : Option ℕ) (n m : ℕ) → o ≡ Some n → o ≡ Some m → m ≡ n
row_is o n m e f = one_some (sym f ∙ e)

abbrev wrong_reply : (decl : Declaration) (states : ℕ → ℕ) (object inv resp : ℕ) (ops : List Op)
    → ((after : ℕ → ℕ) → Option (Walks decl after ops → ⊥))
    → Option (Goes decl states object inv (Some resp) (λ after. Walks decl after ops) → ⊥)
wrong_reply decl states object inv resp ops rest = by (step_at decl object (states object) (event inv resp)) refl
  where
    more : (n : ℕ) → step_at decl object (states object) (event inv resp) ≡ Some n
        → (Walks decl (updated states object n) ops → ⊥)
        → Goes decl states object inv (Some resp) (λ after. Walks decl after ops) → ⊥
    more n e f h = f (subst (λ (m : ℕ). Walks decl (updated states object m) ops)
        (row_is (step_at decl object (states object) (event inv resp)) n h.0 e h.1) h.2)

    by : (o : Option ℕ) → step_at decl object (states object) (event inv resp) ≡ o
        → Option (Goes decl states object inv (Some resp) (λ after. Walks decl after ops) → ⊥)
    by None e = Some (λ h. no_row (step_at decl object (states object) (event inv resp)) e h.0 h.1)
    by (Some n) e = option_map (more n e) (rest (updated states object n))

-- an absent operation that has this response
abbrev has_reply : (decl : Declaration) (states : ℕ → ℕ) (object inv resp : ℕ)
    → Option (((r : ℕ) → step_at decl object (states object) (event inv r) ≡ None) → ⊥)
has_reply decl states object inv resp = by (step_at decl object (states object) (event inv resp)) refl
  where
    by : (o : Option ℕ) → step_at decl object (states object) (event inv resp) ≡ o
        → Option (((r : ℕ) → step_at decl object (states object) (event inv r) ≡ None) → ⊥)
    by None e = None
    by (Some n) e = Some (λ h. no_row (step_at decl object (states object) (event inv resp)) (h resp) n e)

abbrev wrong_absence : (decl : Declaration) (states : ℕ → ℕ) (object inv : ℕ) (ops : List Op)
    → ((after : ℕ → ℕ) → Option (Walks decl after ops → ⊥))
    → Option (Goes decl states object inv None (λ after. Walks decl after ops) → ⊥)
wrong_absence decl states object inv ops rest =
    or_else (option_map here (or_else (has_reply decl states object inv 0)
    (or_else (has_reply decl states object inv 1) (has_reply decl states object inv 2))))
    (option_map later (rest states))
  where
    here : (((r : ℕ) → step_at decl object (states object) (event inv r) ≡ None) → ⊥)
        → Goes decl states object inv None (λ after. Walks decl after ops) → ⊥
    here f h = f h.0

    later : (Walks decl states ops → ⊥) → Goes decl states object inv None (λ after. Walks decl after ops) → ⊥
    later f h = f h.1

abbrev goes_wrong : (decl : Declaration) (states : ℕ → ℕ) (object inv : ℕ) (resp : Option ℕ) (ops : List Op)
    → ((after : ℕ → ℕ) → Option (Walks decl after ops → ⊥))
    → Option (Goes decl states object inv resp (λ after. Walks decl after ops) → ⊥)
goes_wrong decl states object inv None ops rest = wrong_absence decl states object inv ops rest
goes_wrong decl states object inv (Some resp) ops rest = wrong_reply decl states object inv resp ops rest

abbrev no_walk : (decl : Declaration) (states : ℕ → ℕ) (ops : List Op) → Option (Walks decl states ops → ⊥)
no_walk decl states [] = None
no_walk decl states (op ∷ ops) = goes_wrong decl states op.object op.inv op.resp ops (λ after. no_walk decl after ops)

-- the records aren't one copy's
abbrev pub not_one_copy : (decl : Declaration) (acts : List Act) → Option (Holds RecordsAreOneCopy decl acts → ⊥)
not_one_copy decl acts = no_walk decl (start_at decl) (operations (sorted (state acts).records))

abbrev other_tx : (t u : TxId) → Option (t ≡ u → ⊥)
other_tx t u = or_else (option_map by_client (other_number t.client u.client))
    (option_map by_number (other_number t.number u.number))
  where
    by_client : (t.client ≡ u.client → ⊥) → t ≡ u → ⊥
    by_client f e = f (ap (λ (x : TxId). x.client) e)

    by_number : (t.number ≡ u.number → ⊥) → t ≡ u → ⊥
    by_number f e = f (ap (λ (x : TxId). x.number) e)

abbrev not_apart_here : (c d : CommitRecord) (rest : List CommitRecord) → Option (AreApart (c ∷ d ∷ rest) → ⊥)
not_apart_here c d rest =
    or_else (option_map by_stamp (both (same_stamp c.stamp d.stamp) (other_tx c.tx d.tx)))
    (option_map by_tx (both (alike_tx c.tx d.tx) (other_number c.stamp.clock d.stamp.clock)))
  where
    by_stamp : (c.stamp ≡ d.stamp) × (c.tx ≡ d.tx → ⊥) → AreApart (c ∷ d ∷ rest) → ⊥
    by_stamp f a = f.1 (ap (λ (x : CommitRecord). x.tx) (a.stamps c d (inl refl) (inr (inl refl)) f.0))

    by_tx : (c.tx ≡ d.tx) × (c.stamp.clock ≡ d.stamp.clock → ⊥) → AreApart (c ∷ d ∷ rest) → ⊥
    by_tx f a = f.1 (ap (λ (x : CommitRecord). x.stamp.clock) (a.transactions c d (inl refl) (inr (inl refl)) f.0))

abbrev not_apart_of : (records : List CommitRecord) → Option (AreApart records → ⊥)
not_apart_of (c ∷ d ∷ rest) = not_apart_here c d rest
not_apart_of (c ∷ []) = None
not_apart_of [] = None

-- the last two records have one stamp, or one transaction
abbrev pub not_apart : (decl : Declaration) (acts : List Act) → Option (Holds RecordsAreApart decl acts → ⊥)
not_apart decl acts = not_apart_of (state acts).records

-- an operation of a record isn't of this event
abbrev other_event : (decl : Declaration) (ops : List Op) (place object number : ℕ)
    → Option (IsOperation decl ops (suc place) object number → ⊥)
other_event decl ops place object number = by (slice_get ops place) refl
  where
    placed : (h : IsOperation decl ops (suc place) object number) → slice_get ops place ≡ Some h.operation
    placed h = let n : suc place ≡ h.place + 1 = h.numbered in let same : place ≡ h.place = omega arith in
        subst (λ (x : ℕ). slice_get ops x ≡ Some h.operation) (sym same) h.found

    of_event : (op : Op) (resp : ℕ) (o : Option ℕ) → slice_get ops place ≡ Some op → op.resp ≡ Some resp
        → event_at decl op.object op.inv resp ≡ o → Option (IsOperation decl ops (suc place) object number → ⊥)
    of_event op resp o e f g = by_event o g
      where
        the_event : (h : IsOperation decl ops (suc place) object number)
            → event_at decl op.object op.inv resp ≡ Some number
        the_event h =
            let same : op ≡ h.operation = one_some (sym e ∙ placed h) in
            let told : resp ≡ h.resp = one_some (sym f ∙ ap (λ (p : Op). p.resp) same ∙ h.responded) in
            subst (λ (r : ℕ). event_at decl op.object op.inv r ≡ Some number) (sym told)
            (subst (λ (p : Op). event_at decl p.object p.inv h.resp ≡ Some number) (sym same) h.is_event)

        by_event : (p : Option ℕ) → event_at decl op.object op.inv resp ≡ p
            → Option (IsOperation decl ops (suc place) object number → ⊥)
        by_event None k = Some (λ h. no_row (event_at decl op.object op.inv resp) k number (the_event h))
        by_event (Some n) k = option_map (λ (different : n ≡ number → ⊥).
            λ (h : IsOperation decl ops (suc place) object number). different
            (sym (row_is (event_at decl op.object op.inv resp) n number k (the_event h)))) (other_number n number)

    of_resp : (op : Op) (o : Option ℕ) → slice_get ops place ≡ Some op → op.resp ≡ o
        → Option (IsOperation decl ops (suc place) object number → ⊥)
    of_resp op None e f = Some (λ h. no_row op.resp f h.resp
        (ap (λ (p : Op). p.resp) (one_some (sym e ∙ placed h)) ∙ h.responded))
    of_resp op (Some resp) e f = of_event op resp (event_at decl op.object op.inv resp) e f refl

    by : (o : Option Op) → slice_get ops place ≡ o → Option (IsOperation decl ops (suc place) object number → ⊥)
    by None e = Some (λ h. none_some (sym e ∙ placed h))
    by (Some op) e = of_resp op op.resp e refl

abbrev not_operation : (decl : Declaration) (ops : List Op) (number object of_event : ℕ)
    → Option (IsOperation decl ops number object of_event → ⊥)
not_operation decl ops zero object of_event = None
not_operation decl ops (suc place) object of_event = other_event decl ops place object of_event

abbrev not_logged : (decl : Declaration) (records : List CommitRecord) (l : Line) → Option (IsLogged decl records l → ⊥)
not_logged decl records l = option_map made
    (every (λ (c : CommitRecord). l.tx ≡ c.tx → IsOperation decl c.ops l.op l.object l.event → ⊥)
    (λ c. where_same_tx l.tx c.tx (not_operation decl c.ops l.op l.object l.event)) records)
  where
    made : ((c : CommitRecord) → In c records → l.tx ≡ c.tx → IsOperation decl c.ops l.op l.object l.event → ⊥)
        → IsLogged decl records l → ⊥
    made f h = f h.commit h.listed h.named h.operation

-- a log of this site has a line that is no record's operation
abbrev pub wrong_log : (site : ℕ) (decl : Declaration) (acts : List Act)
    → Option (Holds LogsHoldOperations decl acts → ⊥)
wrong_log site decl acts = option_map made
    (some (λ (l : Line). IsLogged decl (state acts).records l → ⊥) (not_logged decl (state acts).records)
    (site_after ((state acts).deeds site)).volatile)
  where
    made : IsFound (λ (l : Line). IsLogged decl (state acts).records l → ⊥)
        (site_after ((state acts).deeds site)).volatile → Holds LogsHoldOperations decl acts → ⊥
    made f h = f.holds (h (site_after ((state acts).deeds site)).volatile (OfSite site refl) f.item f.stands)

-- a transaction that was told to be given up has a record
abbrev has_record : (acts : List Act) (v : Verdict) → Option (IsVerdictOf (state acts).records v.tx v.stamp → ⊥)
has_record acts v = by v.stamp
  where
    by : (o : Option Stamp) → Option (IsVerdictOf (state acts).records v.tx o → ⊥)
    by None = option_map (λ (f : IsFound (λ (c : CommitRecord). c.tx ≡ v.tx) (state acts).records). λ h. h f.item
        f.stands f.holds) (some (λ (c : CommitRecord). c.tx ≡ v.tx) (λ c. alike_tx c.tx v.tx) (state acts).records)
    by (Some s) = None

abbrev pub wrong_verdict : (decl : Declaration) (acts : List Act) → Option (Holds VerdictsAgree decl acts → ⊥)
wrong_verdict decl acts = option_map made
    (some (λ (v : Verdict). IsVerdictOf (state acts).records v.tx v.stamp → ⊥) (has_record acts) (state acts).verdicts)
  where
    made : IsFound (λ (v : Verdict). IsVerdictOf (state acts).records v.tx v.stamp → ⊥) (state acts).verdicts
        → Holds VerdictsAgree decl acts → ⊥
    made f h = f.holds (h f.item f.stands)

-- a line that the client had counted has no record with a smaller clock
abbrev not_earlier : (records : List CommitRecord) (l : Line) (clock : ℕ)
    → Option (HasEarlier records l.tx l.stamp clock → ⊥)
not_earlier records l clock = option_map made
    (every (λ (c : CommitRecord). c.tx ≡ l.tx → clock ≤ c.stamp.clock)
    (λ c. where_same_tx c.tx l.tx (at_most clock c.stamp.clock)) records)
  where
    made : ((c : CommitRecord) → In c records → c.tx ≡ l.tx → clock ≤ c.stamp.clock)
        → HasEarlier records l.tx l.stamp clock → ⊥
    made f h = let late : clock ≤ h.commit.stamp.clock = f h.commit h.listed h.named in
        let early : h.commit.stamp.clock < clock = h.before in omega arith

abbrev IsSeenLate : State → CommitRecord → Granted → Type 0
IsSeenLate now c g = (l : Line) × (Shows g l × (HasEarlier now.records l.tx l.stamp c.stamp.clock → ⊥))

abbrev seen_late : (now : State) (c : CommitRecord) (g : Granted) → Option (IsSeenLate now c g)
seen_late now c g = option_map made (some
    (λ (l : Line). Shows g l × (HasEarlier now.records l.tx l.stamp c.stamp.clock → ⊥))
    (λ l. both (shows g l) (not_earlier now.records l c.stamp.clock)) (site_after g.before).volatile)
  where
    made : IsFound (λ (l : Line). Shows g l × (HasEarlier now.records l.tx l.stamp c.stamp.clock → ⊥))
        (site_after g.before).volatile → IsSeenLate now c g
    made f = (f.item, (f.holds.0, f.holds.1))

-- the last record isn't stamped above all that its client had counted
abbrev pub wrong_order : (decl : Declaration) (acts : List Act) → Option (Holds LastRecordFollowsSeen decl acts → ⊥)
wrong_order decl (Commit c ∷ older) = option_map made
    (some (IsSeenLate (state older) c) (seen_late (state older) c) ((state older).seen_by c.tx.client))
  where
    made : IsFound (IsSeenLate (state older) c) ((state older).seen_by c.tx.client)
        → Holds LastRecordFollowsSeen decl (Commit c ∷ older) → ⊥
    made f h = (f.holds.1).1 ((h c older refl).seen_by f.item f.holds.0 f.stands (f.holds.1).0)
wrong_order decl _ = None
