-- Each question of the administrator is answered as the request about its transaction is.
use Rattle.std.proofs.Common.{◌≡◌, Bool, false, cond, List, [], ◌∷◌, ◌++◌, Option, Some, None, option_map, refl, sym}
use Rattle.std.proofs.Common.{ap, ◌∙◌, subst, append_assoc}
use Rattle.std.specs.Prelude.{is_some}
use Rattle.std.specs.List.{AllByRecursion as Every}
use Rattle.std.specs.Option.{option_map_or, option_or}
use Rattle.std.proofs.lemmas.List.{append-nil}
use Rattle.std.proofs.lemmas.List.Folds.{find-append}
use Rattle.qc_stamp.specs.declared.stamp.TxId.{TxId}
use Rattle.qc_stamp.specs.Vocabulary.{same_tx}
use Rattle.qc_stamp.proofs.Orders.{other_tx_sym, same_tx_itself}
use Rattle.qc_msg.specs.declared.message.Answer.{Answer}
use Rattle.qc_promise.specs.Vocabulary.{AdminRequest, AdminWant, Ask, Promised, is_among, is_ask_of}
use Rattle.qc_epoch.specs.Vocabulary.{Question, outcome_in}
use Rattle.laws_due.proofs.AdminQuestions.{AreAbout, AreDistinct, about, asked_of, heard, heard_is, outcome_of}
use Rattle.qc_list.proofs.Booleans.{or_parts}

-- each question is answered as the request about its transaction is

abbrev pub is_taken : Option AdminRequest → Bool
is_taken o = option_map_or (λ (q : AdminRequest). is_some q.taken) o false

pub record Agrees (all : List AdminRequest) (p : Promised) (x : Question) : Type 0 where
  pub tx : x.tx ≡ p.tx
  pub site : x.site ≡ p.site
  pub outcome : heard x.taken ≡ outcome_of (about all p.tx)
  pub answered : is_some x.taken ≡ is_taken (about all p.tx)

abbrev pub Agree : List AdminRequest → List Promised → List Question → Type 0
Agree all [] [] = Unit {0}
Agree all [] (x ∷ xs) = ⊥
Agree all (p ∷ ps) [] = ⊥
Agree all (p ∷ ps) (x ∷ xs) = Agrees all p x × Agree all ps xs

abbrev IsUnasked : List AdminRequest → Promised → Type 0
IsUnasked before p = about before p.tx ≡ None

taken_some : (t : Option (Option Answer)) → is_some (option_map outcome_in t) ≡ is_some t
taken_some None = refl
taken_some (Some x) = refl

about_both : (xs ys : List AdminRequest) (tx : TxId) → about (xs ++ ys) tx ≡ option_or (about xs tx) (about ys tx)
about_both xs ys tx = find-append (λ (q : AdminRequest). is_ask_of tx q.want) xs ys

unasked_agree : (before : List AdminRequest) (ps : List Promised) → Every (IsUnasked before) ps
    → Agree before ps (asked_of ps [])
unasked_agree before [] none = tt
unasked_agree before (p ∷ ps) none = (
  record { tx = refl; site = refl; outcome = sym (ap outcome_of none.0); answered = sym (ap is_taken none.0) },
  unasked_agree before ps none.1,
)

-- one more is asked before those that aren't
still_unasked : (before : List AdminRequest) (p : Promised) (q : AdminRequest) → q.want ≡ Ask p.tx
    → (ps : List Promised) → is_among ps p.tx ≡ false → Every (IsUnasked before) ps
    → Every (IsUnasked (before ++ q ∷ [])) ps
still_unasked before p q want [] none all = tt
still_unasked before p q want (x ∷ ps) none all =
    let parts : (same_tx x.tx p.tx ≡ false) × (is_among ps p.tx ≡ false) =
    or_parts (same_tx x.tx p.tx) (is_among ps p.tx) none in (
      about_both before (q ∷ []) x.tx ∙ ap (λ (o : Option AdminRequest). option_or o (about (q ∷ []) x.tx)) all.0
          ∙ ap (λ (w : AdminWant). cond (is_ask_of x.tx w) (Some q) None) want
          ∙ ap (λ (b : Bool). cond b (Some q) None) (other_tx_sym x.tx p.tx parts.0),
      still_unasked before p q want ps parts.1 all.1,
    )

agree_from : (before : List AdminRequest) (ps : List Promised) (qs : List AdminRequest) → AreDistinct ps
    → AreAbout ps qs → Every (IsUnasked before) ps → Agree (before ++ qs) ps (asked_of ps qs)
agree_from before ps [] distinct are none =
    subst (λ (all : List AdminRequest). Agree all ps (asked_of ps [])) (sym (append-nil before))
    (unasked_agree before ps none)
agree_from before [] (q ∷ qs) distinct are none = absurd are
agree_from before (p ∷ ps) (q ∷ qs) distinct are none = (
  record {
    tx = refl;
    site = refl;
    outcome = heard_is q ∙ sym (ap outcome_of here);
    answered = taken_some q.taken ∙ sym (ap is_taken here);
  },
  subst (λ (all : List AdminRequest). Agree all ps (asked_of ps qs)) (append_assoc before (q ∷ []) qs)
      (agree_from (before ++ q ∷ []) ps qs distinct.1 are.1 (still_unasked before p q are.0 ps distinct.0 none.1)),
)
  where
    here : about (before ++ q ∷ qs) p.tx ≡ Some q
    here =
        about_both before (q ∷ qs) p.tx ∙ ap (λ (o : Option AdminRequest). option_or o (about (q ∷ qs) p.tx)) none.0
        ∙ ap (λ (w : AdminWant). cond (is_ask_of p.tx w) (Some q) (about qs p.tx)) are.0
        ∙ ap (λ (b : Bool). cond b (Some q) (about qs p.tx)) (same_tx_itself p.tx)

none_before : (ps : List Promised) → Every (IsUnasked []) ps
none_before [] = tt
none_before (p ∷ ps) = (refl, none_before ps)

pub agree : (ps : List Promised) (qs : List AdminRequest) → AreDistinct ps → AreAbout ps qs
    → Agree qs ps (asked_of ps qs)
agree ps qs distinct are = agree_from [] ps qs distinct are (none_before ps)
