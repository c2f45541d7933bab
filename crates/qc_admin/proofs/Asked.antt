-- What questions tell is the same whether they are asked or not, and whatever their numbers are.
use Rattle.std.proofs.Common.{◌≡◌, ℕ, zero, suc, ◌+◌, Bool, true, false, cond, List, [], ◌∷◌, map, take, Option, Some}
use Rattle.std.proofs.Common.{None, option_map, refl, ap}
use Rattle.std.specs.List.{AllByRecursion as Every}
use Rattle.qc_stamp.specs.declared.stamp.TxId.{TxId}
use Rattle.qc_stamp.specs.Vocabulary.{same_tx}
use Rattle.qc_decl.specs.declared.declaration.Declaration.{Declaration}
use Rattle.qc_epoch.specs.Vocabulary.{Question, ask_of, clock_in, first_doubt, is_settled, stamp_in, stamp_of}
use Rattle.qc_admin.specs.declared.questions.Query.{Query}
use Rattle.qc_admin.specs.Vocabulary.{ask_about, asked_from, in_doubt, latest_of, number_at, question_of, shown}
use Rattle.qc_admin.specs.Vocabulary.{unasked}

-- the first doubt

doubt_asked : (first place : ℕ) (qs : List Query)
    → option_map in_doubt (first_doubt (unasked qs)) ≡ option_map in_doubt (first_doubt (asked_from first place qs))
doubt_asked first place [] = refl
doubt_asked first place (q ∷ qs) = by (is_settled q.taken) (doubt_asked first (place + 1) qs)
  where
    by : (b : Bool) → option_map in_doubt (first_doubt (unasked qs)) ≡ option_map in_doubt
        (first_doubt (asked_from first (place + 1) qs))
        → option_map in_doubt (cond b (first_doubt (unasked qs)) (Some (question_of None q)))
        ≡ option_map in_doubt (cond b (first_doubt (asked_from first (place + 1) qs))
        (Some (question_of (number_at first place) q)))
    by true rest = rest
    by false rest = refl

pub doubt_shown : (first : Option ℕ) (qs : List Query)
    → option_map in_doubt (first_doubt (unasked qs)) ≡ option_map in_doubt (first_doubt (shown first qs))
doubt_shown None qs = refl
doubt_shown (Some first) qs = doubt_asked first 0 qs

-- the stamps

stamp_asked : (first place : ℕ) (tx : TxId) (qs : List Query)
    → stamp_of (unasked qs) tx ≡ stamp_of (asked_from first place qs) tx
stamp_asked first place tx [] = refl
stamp_asked first place tx (q ∷ qs) = ap (λ rest. cond (same_tx q.tx tx) (stamp_in q.taken) rest)
    (stamp_asked first (place + 1) tx qs)

pub stamp_shown : (first : Option ℕ) (tx : TxId) (qs : List Query)
    → stamp_of (unasked qs) tx ≡ stamp_of (shown first qs) tx
stamp_shown None tx qs = refl
stamp_shown (Some first) tx qs = stamp_asked first 0 tx qs

-- the greatest clock

latest_asked : (first place clock : ℕ) (qs : List Query)
    → latest_of clock (unasked qs) ≡ latest_of clock (asked_from first place qs)
latest_asked first place clock [] = refl
latest_asked first place clock (q ∷ qs) = latest_asked first (place + 1) (clock_in clock (stamp_in q.taken)) qs

pub latest_shown : (first : Option ℕ) (clock : ℕ) (qs : List Query)
    → latest_of clock (unasked qs) ≡ latest_of clock (shown first qs)
latest_shown None clock qs = refl
latest_shown (Some first) clock qs = latest_asked first 0 clock qs

-- the Asks

asks_unasked : (decl : Declaration) (n : ℕ) (qs : List Query)
    → map (ask_about decl) (take n qs) ≡ map (ask_of decl) (take n (unasked qs))
asks_unasked decl zero qs = refl
asks_unasked decl (suc n) [] = refl
asks_unasked decl (suc n) (q ∷ qs) = ap (λ ps. ask_about decl q ∷ ps) (asks_unasked decl n qs)

asks_asked : (decl : Declaration) (first place n : ℕ) (qs : List Query)
    → map (ask_about decl) (take n qs) ≡ map (ask_of decl) (take n (asked_from first place qs))
asks_asked decl first place zero qs = refl
asks_asked decl first place (suc n) [] = refl
asks_asked decl first place (suc n) (q ∷ qs) = ap (λ ps. ask_about decl q ∷ ps) (asks_asked decl first (place + 1) n qs)

pub asks_shown : (decl : Declaration) (first : Option ℕ) (n : ℕ) (qs : List Query)
    → map (ask_about decl) (take n qs) ≡ map (ask_of decl) (take n (shown first qs))
asks_shown decl None n qs = asks_unasked decl n qs
asks_shown decl (Some first) n qs = asks_asked decl first 0 n qs

-- what holds of the transaction of each question

unasked_every : (P : TxId → Type 0) (n : ℕ) (qs : List Query) → Every (λ (q : Question). P q.tx) (unasked qs)
    → Every (λ (q : Query). P q.tx) (take n qs)
unasked_every P zero qs all = tt
unasked_every P (suc n) [] all = tt
unasked_every P (suc n) (q ∷ qs) all = (all.0, unasked_every P n qs all.1)

asked_every : (P : TxId → Type 0) (first place n : ℕ) (qs : List Query)
    → Every (λ (q : Question). P q.tx) (asked_from first place qs) → Every (λ (q : Query). P q.tx) (take n qs)
asked_every P first place zero qs all = tt
asked_every P first place (suc n) [] all = tt
asked_every P first place (suc n) (q ∷ qs) all = (all.0, asked_every P first (place + 1) n qs all.1)

pub shown_every : (P : TxId → Type 0) (first : Option ℕ) (n : ℕ) (qs : List Query)
    → Every (λ (q : Question). P q.tx) (shown first qs) → Every (λ (q : Query). P q.tx) (take n qs)
shown_every P None n qs all = unasked_every P n qs all
shown_every P (Some first) n qs all = asked_every P first 0 n qs all
