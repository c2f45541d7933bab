-- Which reply is due to a `do` of an undisturbed run: a response, none, or a Clash with what is open elsewhere.
use Rattle.std.proofs.Common.{◌≡◌, ℕ, ◌-◌, ◌<◌, ◌≤◌, ◌==◌, inl, inr, nat_le, Bool, true, false, cond, List, [], ◌∷◌}
use Rattle.std.proofs.Common.{◌++◌, map, length, Option, Some, None, option_map, slice_get, refl, sym, ap, ◌∙◌, subst}
use Rattle.std.proofs.Common.{arith, eqb-true}
use Rattle.std.specs.Prelude.{drop, take, MatchOption}
use Rattle.std.proofs.lemmas.Bool.{leb-true}
use Rattle.std.proofs.lemmas.List.{append-nil, length-map, take-append-drop}
use Rattle.qc_list.specs.Vocabulary.{In}
use Rattle.qc_list.proofs.Members.{In-passes, In-unfiltered}
use Rattle.qc_stamp.specs.declared.stamp.TxId.{TxId}
use Rattle.qc_core.specs.Vocabulary.{IsLawful}
use Rattle.qc_decl.specs.Vocabulary.{IsAccepted, append_need_of, first_site, is_client, most_transaction_operations}
use Rattle.qc_decl.specs.Vocabulary.{read_need_of}
use Rattle.qc_decl.specs.declared.declaration.Declaration.{Declaration}
use Rattle.qc_plan.specs.Vocabulary.{has_granted, total, verdict, weight}
use Rattle.qc_plan.specs.declared.standing.Asked.{Asked}
use Rattle.qc_plan.specs.declared.standing.Verdict.{Verdict}
use Rattle.qc_plan.specs.declared.standing.Verdict.TheVariants as verdicts
use Rattle.qc_msg.specs.declared.message.Answer.{Answer}
use Rattle.qc_msg.specs.declared.message.Want.{Want}
use Rattle.qc_msg.specs.declared.message.Want.TheVariants.{Append, Prepare, Read}
use Rattle.qc_msg.specs.declared.reply.Reply.{Reply}
use Rattle.qc_msg.specs.declared.reply.Reply.TheVariants as replies
use Rattle.qc_msg.specs.Vocabulary.{Entry, deeds, Clashing, clash_in, closed_in, granted_in}
use Rattle.qc_msg.specs.declared.payload.Grant.{Grant}
use Rattle.qc_script.specs.Vocabulary.{Runs}
use Rattle.qc_script.specs.declared.script.Script.{Script}
use Rattle.laws_turns.specs.Vocabulary.{ActsIn, AsksDeclared}
use Rattle.laws_turns.proofs.Acted.{actors_take_and_post_by_turns}
use Rattle.qc_promise.specs.Vocabulary.{Account, ClientRequest, Current, account, answer_of, answer_row, append_row}
use Rattle.qc_promise.specs.Vocabulary.{asked_by, do_row, is_append, is_read, read_row, requests_for, resp_of, round_of}
use Rattle.qc_promise.specs.Vocabulary.{standing_of, weights_of}
use Rattle.laws_due.proofs.Courses.{deeds_of_clients_are_by_rows}
use Rattle.laws_guarantees.specs.Vocabulary.{IsUndisturbed}
use Rattle.laws_guarantees.proofs.OpenElsewhere.{IsElsewhere}
use Rattle.laws_guarantees.proofs.UndisturbedCounted.{GoodHold, GoodTaken, taken_good}
use Rattle.laws_guarantees.proofs.Verdicts.{AreGood, GoodStanding, GoodVerdict, append_light, good_verdict}
use Rattle.laws_guarantees.proofs.Verdicts.{granted_sites, order_heavy, read_light}
use Rattle.laws_guarantees.proofs.AskingOrder.{IsHalf, count_in, order, sites_in, of_appends, of_reads}
use Rattle.laws_guarantees.proofs.Voters.{in_order}
use Rattle.std.specs.Option.{option_map_or}
use Rattle.qc_plan.specs.declared.standing.Standing.TheVariants as standings

-- a half's requests with their answers

good_standing : (decl : Declaration) (a : ℕ) (h : List Entry) (o : Option (Option Answer)) (want : Want)
    → (half : Want → Bool) → IsHalf half → half want ≡ true → GoodTaken decl a h want o
    → GoodStanding (IsElsewhere decl a h) (option_map standing_of o)
good_standing decl a h None want half is_half its good = tt
good_standing decl a h (Some None) want half is_half its never = absurd never
good_standing decl a h (Some (Some answer)) want half is_half its good =
    by answer (hold want half is_half its answer good)
  where
    hold : (want : Want) (half : Want → Bool) → IsHalf half → half want ≡ true → (answer : Answer)
        → GoodTaken decl a h want (Some (Some answer)) → GoodHold decl a h answer
    hold (Read read) half is_half its answer good = good
    hold (Append object view own) half is_half its answer good = good
    hold Prepare half of_reads its answer good = absurd (let never : ⊥ = cc in never)
    hold Prepare half of_appends its answer good = absurd (let never : ⊥ = cc in never)

    by : (answer : Answer) → GoodHold decl a h answer
        → GoodStanding (IsElsewhere decl a h) (Some (standing_of (Some answer)))
    by answer = at (granted_in answer) (clash_in answer) (closed_in answer)
      where
        at : (g : Option Grant) (c : Option Clashing) (closed : Option ℕ)
            → MatchOption g (MatchOption c ⊥ (λ (c : Clashing). IsElsewhere decl a h c.holder))
            (λ (g : Grant). Unit {0})
            → GoodStanding (IsElsewhere decl a h) (Some (option_map_or (λ (x : Grant). standings.Granted) g
            (option_map_or (λ (c : Clashing). standings.Clash c.holder) c
            (option_map_or standings.Closed closed standings.Missing))))
        at (Some g) c closed good = tt
        at None (Some c) closed good = good
        at None None closed never = absurd never

good_asked : (P : TxId → Type 0) (qs : List ClientRequest)
    → ((q : ClientRequest) → In q qs → GoodStanding P (option_map standing_of q.taken)) → AreGood P (map asked_by qs)
good_asked P [] all = tt
good_asked P (q ∷ qs) all = (all q (inl refl), good_asked P qs (λ p among. all p (inr among)))

asked_sites : (qs : List ClientRequest) → map (λ (x : Asked). x.site) (map asked_by qs) ≡ map
    (λ (q : ClientRequest). q.site) qs
asked_sites [] = refl
asked_sites (q ∷ qs) = ap (λ (v : List ℕ). q.site ∷ v) (asked_sites qs)

none_left : (xs : List ℕ) → (length xs == 0) ≡ true → xs ≡ []
none_left [] is = refl
none_left (x ∷ xs) is = absurd (let none : length (x ∷ xs) ≡ 0 = eqb-true (length (x ∷ xs)) 0 is in omega arith)

-- a good reply to a `do`
pub data GoodReply (decl : Declaration) (a : ℕ) (h : List Entry) : Reply → Type 0 where
  is_clash : (tx : TxId) (site : ℕ) → IsElsewhere decl a h tx → GoodReply decl a h (replies.Conflict tx site)
  is_absent : GoodReply decl a h replies.Absent
  is_response : (resp : ℕ) → GoodReply decl a h (replies.Response resp)

module _ (decl : Declaration) (script : Script) (accepted : IsAccepted decl) (asks : AsksDeclared decl script)
    (calm : IsUndisturbed script) where
  -- before the reply: its client has taken the last input

  module _ (h : List Entry) (open_inputs : List Bool) (run : Runs (IsLawful decl) decl script h open_inputs) (a : ℕ)
      (named : is_client decl a ≡ true) (is_opened : slice_get open_inputs a ≡ Some true) (t : Current)
      (current : (account decl a h).current ≡ Some t) where
    d : Account
    d = account decl a h

    acts : ActsIn decl a h true
    acts = actors_take_and_post_by_turns decl script h open_inputs run a true is_opened

    half_asked : (half : Want → Bool) → IsHalf half
        → AreGood (IsElsewhere decl a h) (map asked_by (requests_for half (account decl a h)))
    half_asked half is_half =
        good_asked (IsElsewhere decl a h) (requests_for half (account decl a h)) (λ q among.
        good_standing decl a h q.taken q.want half is_half
        (In-passes (λ (q : ClientRequest). half q.want) q (account decl a h).requests among)
        (taken_good decl script accepted asks calm h open_inputs run a named q
        (In-unfiltered (λ (q : ClientRequest). half q.want) q (account decl a h).requests among)))

    ordered : (half : Want → Bool) → IsHalf half
        → sites_in half (account decl a h).requests ≡ take (count_in half (account decl a h).requests)
        (order decl (account decl a h).client t.epoch)
    ordered half is_half =
        in_order decl half is_half (a - decl.sites) (deeds a [] h)
        (deeds_of_clients_are_by_rows decl a named (deeds a [] h) true acts.above acts.acts) t.epoch
        (ap (λ (o : Option Current). option_map (λ (t : Current). t.epoch) o) current)

    half_verdict : (half : Want → Bool) → IsHalf half → (need : ℕ) → need ≤ total (weights_of decl t.epoch)
        → GoodVerdict (IsElsewhere decl a h) (verdict (round_of decl (account decl a h) t half need))
    half_verdict half is_half need light =
        good_verdict (IsElsewhere decl a h) (round_of decl (account decl a h) t half need) (half_asked half is_half)
        (λ empty granted.
        let asked : List Asked = map asked_by (requests_for half (account decl a h)) in
        let all : List ℕ = order decl (account decl a h).client t.epoch in
        let rest : drop (length (map asked_by (requests_for half (account decl a h))))
        (order decl (account decl a h).client t.epoch) ≡ [] =
        none_left (drop (length (map asked_by (requests_for half (account decl a h))))
        (order decl (account decl a h).client t.epoch)) empty in
        let long : length (map asked_by (requests_for half (account decl a h))) ≡ count_in half
        (account decl a h).requests = length-map (requests_for half (account decl a h)) asked_by in
        let whole : take (count_in half (account decl a h).requests) (order decl (account decl a h).client t.epoch)
        ≡ order decl (account decl a h).client t.epoch =
        sym (append-nil (take (count_in half (account decl a h).requests)
        (order decl (account decl a h).client t.epoch)))
        ∙ ap (λ (v : List ℕ). take (count_in half (account decl a h).requests)
        (order decl (account decl a h).client t.epoch) ++ v)
        (sym (ap (λ (k : ℕ). drop k (order decl (account decl a h).client t.epoch)) (sym long) ∙ rest))
        ∙ take-append-drop (count_in half (account decl a h).requests) (order decl (account decl a h).client t.epoch) in
        let sites : map (λ (x : Asked). x.site) (map asked_by (requests_for half (account decl a h))) ≡ order decl
        (account decl a h).client t.epoch = asked_sites (requests_for half (account decl a h))
        ∙ ordered half is_half ∙ whole in
        let heavy : total (weights_of decl t.epoch) ≤ weight
        (has_granted (map asked_by (requests_for half (account decl a h)))) (weights_of decl t.epoch) =
        order_heavy (weights_of decl t.epoch) (first_site decl (account decl a h).client)
        (map asked_by (requests_for half (account decl a h)))
        (λ k among. granted_sites (IsElsewhere decl a h) (map asked_by (requests_for half (account decl a h))) k granted
        (subst (In k) (sym sites) among)) in
        omega arith)

    -- the row of a `do`

    append_good : (object event : ℕ) (r : Reply) (v : Verdict) → GoodVerdict (IsElsewhere decl a h) v
        → append_row decl object event v ≡ Some r → GoodReply decl a h r
    append_good object event r verdicts.Waiting good is = absurd (let never : ⊥ = cc in never)
    append_good object event r verdicts.Met good is =
        subst (GoodReply decl a h) (let same : replies.Response (resp_of decl object event) ≡ r = cc in same)
        (is_response (resp_of decl object event))
    append_good object event r (verdicts.Closed epoch site) never is = absurd never
    append_good object event r (verdicts.Clash tx site) good is =
        subst (GoodReply decl a h) (let same : replies.Conflict tx site ≡ r = cc in same)
        (is_clash tx site good)
    append_good object event r (verdicts.Short got need) never is = absurd never

    answer_good : (object : ℕ) (r : Reply) (o : Option ℕ) → answer_row decl (account decl a h) t object o ≡ Some r
        → GoodReply decl a h r
    answer_good object r None is = subst (GoodReply decl a h) (let same : replies.Absent ≡ r = cc in same)
        is_absent
    answer_good object r (Some event) is =
        append_good object event r (verdict (round_of decl (account decl a h) t is_append
        (append_need_of decl t.epoch object event)))
        (half_verdict is_append of_appends (append_need_of decl t.epoch object event)
        (append_light decl t.epoch object event accepted)) is

    read_good : (object inv : ℕ) (r : Reply) (v : Verdict) → GoodVerdict (IsElsewhere decl a h) v
        → read_row decl (account decl a h) t object inv v ≡ Some r → GoodReply decl a h r
    read_good object inv r verdicts.Waiting good is = absurd (let never : ⊥ = cc in never)
    read_good object inv r verdicts.Met good is = answer_good object r (answer_of decl t object inv) is
    read_good object inv r (verdicts.Closed epoch site) never is = absurd never
    read_good object inv r (verdicts.Clash tx site) good is =
        subst (GoodReply decl a h) (let same : replies.Conflict tx site ≡ r = cc in same)
        (is_clash tx site good)
    read_good object inv r (verdicts.Short got need) never is = absurd never

    pub row_good : (object inv : ℕ) (r : Reply) → t.doomed ≡ false → length t.ops < most_transaction_operations
        → do_row decl (account decl a h) t object inv ≡ Some r → GoodReply decl a h r
    row_good object inv r live room is =
        read_good object inv r (verdict (round_of decl (account decl a h) t is_read
        (read_need_of decl t.epoch object inv)))
        (half_verdict is_read of_reads (read_need_of decl t.epoch object inv)
        (read_light decl t.epoch object inv accepted)) (sym open_row ∙ is)
      where
        rest : Option Reply
        rest = read_row decl (account decl a h) t object inv
            (verdict (round_of decl (account decl a h) t is_read (read_need_of decl t.epoch object inv)))

        few : nat_le most_transaction_operations (length t.ops) ≡ false
        few = at (nat_le most_transaction_operations (length t.ops)) refl
          where
            at : (x : Bool) → nat_le most_transaction_operations (length t.ops) ≡ x → x ≡ false
            at true many = absurd (let high : most_transaction_operations ≤ length t.ops =
                leb-true most_transaction_operations (length t.ops) many in omega arith)
            at false less = refl

        open_row : do_row decl (account decl a h) t object inv ≡ read_row decl (account decl a h) t object inv
            (verdict (round_of decl (account decl a h) t is_read (read_need_of decl t.epoch object inv)))
        open_row =
            ap (λ (x : Bool). cond x (Some replies.Doomed)
            (cond (nat_le most_transaction_operations (length t.ops)) (Some replies.TooLong)
            (read_row decl (account decl a h) t object inv
            (verdict (round_of decl (account decl a h) t is_read (read_need_of decl t.epoch object inv)))))) live
            ∙ ap (λ (x : Bool). cond x (Some replies.TooLong)
            (read_row decl (account decl a h) t object inv
            (verdict (round_of decl (account decl a h) t is_read (read_need_of decl t.epoch object inv))))) few
