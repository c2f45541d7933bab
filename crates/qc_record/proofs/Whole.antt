-- Bytes are read as a record exactly where they are its spelling.
use Rattle.std.proofs.Common.{◌≡◌, inl, inr, ℕ, suc, ◌+◌, Bool, true, false, cond, ◌==◌, List, [], ◌∷◌, length, Result}
use Rattle.std.proofs.Common.{Ok, Err, refl, sym, ap, subst, ◌∙◌, arith}
use Rattle.std.specs.Prelude.{IfOk}
use Rattle.std.proofs.lemmas.Bool.Decides.{nat_tests}
use Rattle.qc_msg.specs.declared.record.Record.{Record}
use Rattle.qc_msg.specs.declared.record.Record.TheVariants as records
use Rattle.qc_record.specs.declared.fault.RecordFault.{RecordFault}
use Rattle.qc_record.specs.declared.fault.RecordFault.TheVariants as faults
use Rattle.qc_record.specs.Vocabulary.{Answers, Form, IsBytes, all_of, commit_form, decide_of, done_form, done_of}
use Rattle.qc_record.specs.Vocabulary.{epoch_form, install_of, is_legal, nothing, placed, prepared_form, record_at}
use Rattle.qc_record.specs.Vocabulary.{spelled, start_form, whole_at, ◌>>=◌}
use Rattle.qc_record.proofs.Exactness.{IsExact, bind_ok, all_taken, all_again, nothing_exact, chosen}
use Rattle.qc_record.proofs.Exact.{epoch_exact, prepared_exact, done_exact, start_exact, commit_exact}

abbrev pub found : Record → Result Record RecordFault
found rec = Ok rec

pub found_is : (a b : Record) → found a ≡ found b → a ≡ b
found_is a b e = cc

-- the shape is put on last
shaped_all : {A : Type 0} (shape : A → Record) (read : Result (A × List ℕ) ℕ)
    → all_of (read >>= λ x. Ok (shape x.0, x.1)) ≡ (all_of read >>= λ x. Ok (shape x))
shaped_all shape (Err left) = refl
shaped_all shape (Ok x) = by (length x.1 == 0)
  where
    by : (b : Bool) → cond b (Ok (shape x.0)) (Err (length x.1)) ≡
        (cond b (Ok x.0) (Err (length x.1)) >>= λ x. Ok (shape x))
    by true = refl
    by false = refl

placed_ok : (size : ℕ) (read : Result Record ℕ) (rec : Record) → placed size read ≡ Ok rec → read ≡ Ok rec
placed_ok size (Ok found) rec e = let same : found ≡ rec = cc in ap (λ (r : Record). Ok r) same
placed_ok size (Err left) rec e = absurd cc

abbrev got : Record → Result Record ℕ
got rec = Ok rec

got_is : (a b : Record) → got a ≡ got b → a ≡ b
got_is a b e = cc

-- one kind
whole_taken : {A : Type 0} (shape : A → Record) (form : Form A) → IsExact form → (rest : List ℕ) (rec : Record)
    → IsBytes rest → whole_at shape form rest ≡ Ok rec
    → (x : A) × (shape x ≡ rec) × (rest ≡ form.spelled x) × (form.is_legal x ≡ true)
whole_taken shape form exact rest rec fits e =
    let read = sym (shaped_all shape (form.read rest)) ∙ placed_ok _ _ _ e in
    let a = bind_ok (all_of (form.read rest)) (λ x. Ok (shape x)) rec read in
    let t = all_taken form exact rest a.0 fits a.1 in
    let same : shape a.0 ≡ rec = got_is (shape a.0) rec a.2 in
    (a.0, same, t.0, t.1)

whole_again : {A : Type 0} (shape : A → Record) (form : Form A) → IsExact form → (x : A) → form.is_legal x ≡ true
    → whole_at shape form (form.spelled x) ≡ Ok (shape x)
whole_again shape form exact x legal =
    ap (placed (length (form.spelled x) + 1))
    (shaped_all shape (form.read (form.spelled x))
    ∙ ap (λ r. r >>= λ x. Ok (shape x)) (all_again form exact x legal))

pub again : (rec : Record) → is_legal rec ≡ true → record_at (spelled rec) ≡ Ok rec
again records.Life legal = refl
again (records.Prepare p) legal = whole_again records.Prepare prepared_form prepared_exact p legal
again (records.Done tx clock) legal = whole_again done_of done_form done_exact (tx, clock) legal
again (records.Close epoch) legal = whole_again records.Close epoch_form epoch_exact epoch legal
again (records.Install start) legal =
    whole_again install_of start_form start_exact (start.epoch, (start.clock, start.lines)) legal
again (records.Commit c) legal = whole_again records.Commit commit_form commit_exact c legal
again (records.Decide start) legal =
    whole_again decide_of start_form start_exact (start.epoch, (start.clock, start.lines)) legal

abbrev IsSpelled : List ℕ → Record → Type 0
IsSpelled bytes rec = (bytes ≡ spelled rec) × (is_legal rec ≡ true)

one_kind : {A : Type 0} (n : ℕ) (shape : A → Record) (form : Form A) → IsExact form
    → ((x : A) → spelled (shape x) ≡ n ∷ form.spelled x) → ((x : A) → is_legal (shape x) ≡ form.is_legal x)
    → (kind : ℕ) (rest : List ℕ) (rec : Record) → IsBytes rest → (kind == n) ≡ true → whole_at shape form rest ≡ Ok rec
    → IsSpelled (kind ∷ rest) rec
one_kind n shape form exact spells lawful kind rest rec fits is e =
    let kind_is : kind ≡ n = grind (arith, nat_tests, is) in
    let t = whole_taken shape form exact rest rec fits e in
    let whole : kind ∷ rest ≡ spelled (shape t.0) = ap (λ (k : ℕ). k ∷ rest) kind_is ∙ ap (λ (l : List ℕ). n ∷ l) t.2
    ∙ sym (spells t.0) in
    subst (λ (r : Record). IsSpelled (kind ∷ rest) r) t.1 (whole, lawful t.0 ∙ t.3)

pub taken : (bytes : List ℕ) (rec : Record) → IsBytes bytes → record_at bytes ≡ Ok rec → IsSpelled bytes rec
taken [] rec fits e = absurd cc
taken (kind ∷ rest) rec fits e =
    let behind : IsBytes rest = λ i. fits (suc i) in
    elim (chosen (kind == 1) _ _ _ e) [
      | inl h ↦ one_kind 1 (λ _. records.Life) nothing nothing_exact (λ x. refl)
          (λ x. refl) kind rest rec behind h.0 h.1
      | inr f1 ↦
          elim (chosen (kind == 2) _ _ _ f1.1) [
            | inl h ↦ one_kind 2 records.Prepare prepared_form prepared_exact (λ x. refl)
                (λ x. refl) kind rest rec behind h.0 h.1
            | inr f2 ↦
                elim (chosen (kind == 3) _ _ _ f2.1) [
                  | inl h ↦ one_kind 3 done_of done_form done_exact (λ x. refl) (λ x. refl) kind rest rec behind h.0 h.1
                  | inr f3 ↦
                      elim (chosen (kind == 4) _ _ _ f3.1) [
                        | inl h ↦ one_kind 4 records.Close epoch_form epoch_exact (λ x. refl)
                            (λ x. refl) kind rest rec behind h.0 h.1
                        | inr f4 ↦
                            elim (chosen (kind == 5) _ _ _ f4.1) [
                              | inl h ↦ one_kind 5 install_of start_form start_exact (λ x. refl)
                                  (λ x. refl) kind rest rec behind h.0 h.1
                              | inr f5 ↦
                                  elim (chosen (kind == 6) _ _ _ f5.1) [
                                    | inl h ↦ one_kind 6 records.Commit commit_form commit_exact (λ x. refl)
                                        (λ x. refl) kind rest rec behind h.0 h.1
                                    | inr f6 ↦
                                        elim (chosen (kind == 7) _ _ _ f6.1) [
                                          | inl h ↦ one_kind 7 decide_of start_form start_exact (λ x. refl)
                                              (λ x. refl) kind rest rec behind h.0 h.1
                                          | inr f7 ↦
                                              let no : Err (faults.Unknown kind) ≡ found rec = f7.1 in absurd cc
                                        ]
                                  ]
                            ]
                      ]
                ]
          ]
    ]

pub is_found : (bytes : List ℕ) (r : Result Record RecordFault) → IsBytes bytes → Answers r (record_at bytes)
    → IfOk r (λ rec. IsSpelled bytes rec)
is_found bytes (Ok rec) fits given = taken bytes rec fits given
is_found bytes (Err e) fits given = tt
