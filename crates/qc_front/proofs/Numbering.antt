-- One call gives all requests of a turn the numbers that they get one after another.
use Rattle.std.proofs.Common.{◌≡◌, ℕ, ◌+◌, ◌<◌, ◌==◌, Bool, true, false, cond, inl, inr, List, [], ◌∷◌, ◌++◌, length}
use Rattle.std.proofs.Common.{map, Option, Some, None, refl, sym, ap, ◌∙◌, subst, eqb-true, arith, append_assoc}
use Rattle.std.specs.Ordering.{nat_cmp}
use Rattle.std.proofs.lemmas.List.{append-nil, map-append}
use Rattle.qc_list.specs.Vocabulary.{Ascends, In}
use Rattle.qc_decl.specs.declared.declaration.Declaration.{Declaration}
use Rattle.qc_msg.specs.declared.begun.Begun.{Begun}
use Rattle.qc_msg.specs.declared.call.Call.{Call}
use Rattle.qc_msg.specs.declared.message.Message.{Message}
use Rattle.qc_msg.specs.declared.message.Message.TheVariants as messages
use Rattle.qc_msg.specs.declared.message.Want.{Want}
use Rattle.qc_msg.specs.declared.turn.Posting.{Posting}
use Rattle.qc_msg.specs.Vocabulary.{calls_from, numbered_from, with_call}
use Rattle.qc_plan.specs.Vocabulary.{RoundState}
use Rattle.qc_front.specs.declared.doing.Doing.{Doing}
use Rattle.qc_front.specs.declared.doing.Doing.TheVariants.{Idle, Reading, Appending}
use Rattle.qc_front.specs.declared.front.Front.{Front}
use Rattle.qc_front.specs.declared.transaction.Transaction.{Transaction}
use Rattle.qc_front.specs.Vocabulary.{AreOpen, AsksAll, AsksIn, AsksNobody, BegunHolds, FrontHolds, IsAwaiting}
use Rattle.qc_front.specs.Vocabulary.{IsNextCall, IsNextOpen, IsNumbered, append_want, awaited, is_request, numbered}
use Rattle.qc_front.specs.Vocabulary.{numbered_all, numbered_one, read_want, request_of, requested, requested_in, sent}
use Rattle.qc_front.specs.Vocabulary.{sites_called}
use Rattle.qc_front.proofs.Noting.{awaits_some}
use Rattle.qc_front.proofs.Recording.{ascends_last, below_one}

-- calls numbered from one on

pub from_sites : (first : ℕ) (xs : List ℕ) → sites_called (calls_from first xs) ≡ xs
from_sites first [] = refl
from_sites first (x ∷ xs) = ap (λ (ys : List ℕ). x ∷ ys) (from_sites (first + 1) xs)

pub from_later : (n first : ℕ) (xs : List ℕ) → n < first → (k : ℕ)
    → In k (map (λ (c : Call). c.number) (calls_from first xs)) → n < k
from_later n first [] low k among = absurd among
from_later n first (x ∷ xs) low k (inl same) = (let eq : k ≡ first = same in omega arith)
from_later n first (x ∷ xs) low k (inr later) = from_later n (first + 1) xs (omega arith) k later

pub from_ascends : (first : ℕ) (xs : List ℕ) → Ascends nat_cmp (map (λ (c : Call). c.number) (calls_from first xs))
from_ascends first [] = tt
from_ascends first (x ∷ xs) = (
  below_one first (map (λ (c : Call). c.number) (calls_from (first + 1) xs))
      (from_later first (first + 1) xs (omega arith)),
  from_ascends (first + 1) xs,
)

from_open : (first : ℕ) (round : RoundState) → AreOpen (calls_from first (awaited round)) round
from_open first round = record {
  numbers = from_ascends first (awaited round);
  sites = record {
    more = [];
    is = append-nil (sites_called (calls_from first (awaited round)))
        ∙ from_sites first (awaited round);
  };
}

numbered_open : (calls : List Call) (round : RoundState) (first : ℕ) → AreOpen calls round
    → AreOpen (numbered_from calls (awaited round) first) round
numbered_open calls round first o = by (length calls == 0)
  where
    by : (t : Bool) → AreOpen (cond t (calls_from first (awaited round)) calls) round
    by true = from_open first round
    by false = o

-- the front end holds after its requests got their numbers

sent_in : (decl : Declaration) (client : ℕ) (t : Option Transaction) (doing : Doing) (first : ℕ)
    → BegunHolds decl client t doing → BegunHolds decl client t (numbered doing first)
sent_in decl client None doing first h = ap (λ (d : Doing). numbered d first) h
sent_in decl client (Some t) Idle first h = h
sent_in decl client (Some t) (Reading object inv calls round) first h = (
  h.0,
  record {
    room = h.1.room;
    round_is = h.1.round_is;
    awaits = h.1.awaits;
    calls_are = numbered_open calls round first h.1.calls_are;
  },
)
sent_in decl client (Some t) (Appending object inv event calls round) first h = (
  h.0,
  record {
    room = h.1.room;
    chosen = h.1.chosen;
    round_is = h.1.round_is;
    awaits = h.1.awaits;
    calls_are = numbered_open calls round first h.1.calls_are;
  },
)

pub sent_holds : (decl : Declaration) (front : Front) (first : ℕ) → FrontHolds decl front
    → FrontHolds decl (sent front first)
sent_holds decl front first h = sent_in decl front.client front.transaction front.doing first h

-- and after one of them did

with_open : (calls : List Call) (round : RoundState) (number site : ℕ) → AreOpen calls round
    → IsNextOpen calls round number site → AreOpen (with_call calls number site) round
with_open calls round number site o next = record {
  numbers = subst (λ (ns : List ℕ). Ascends nat_cmp ns)
      (sym (map-append (λ (c : Call). c.number) calls (record { number = number; site = site } ∷ [])))
      (ascends_last (map (λ (c : Call). c.number) calls) number o.numbers (λ k among. low k calls next.later among));
  sites = record {
    more = next.more;
    is = ap (λ (ss : List ℕ). ss ++ next.more)
        (map-append (λ (c : Call). c.site) calls (record { number = number; site = site } ∷ []))
        ∙ append_assoc (sites_called calls) (site ∷ []) next.more ∙ next.next;
  };
}
  where
    low : (k : ℕ) (cs : List Call) → ((c : Call) → In c cs → c.number < number) → In k (map (λ (c : Call). c.number) cs)
        → k < number
    low k [] all among = absurd among
    low k (c ∷ cs) all (inl same) = (let few : c.number < number = all c (inl refl) in let eq : k ≡ c.number = same in
        omega arith)
    low k (c ∷ cs) all (inr later) = low k cs (λ d d_in. all d (inr d_in)) later

requested_holds_in : (decl : Declaration) (client : ℕ) (t : Option Transaction) (doing : Doing) (number site : ℕ)
    → BegunHolds decl client t doing → IsNextCall doing number site
    → BegunHolds decl client t (requested_in doing number site)
requested_holds_in decl client None doing number site h next = ap (λ (d : Doing). requested_in d number site) h
requested_holds_in decl client (Some t) Idle number site h next = h
requested_holds_in decl client (Some t) (Reading object inv calls round) number site h next = (
  h.0,
  record {
    room = h.1.room;
    round_is = h.1.round_is;
    awaits = h.1.awaits;
    calls_are = with_open calls round number site h.1.calls_are next;
  },
)
requested_holds_in decl client (Some t) (Appending object inv event calls round) number site h next = (
  h.0,
  record {
    room = h.1.room;
    chosen = h.1.chosen;
    round_is = h.1.round_is;
    awaits = h.1.awaits;
    calls_are = with_open calls round number site h.1.calls_are next;
  },
)

pub requested_holds : (decl : Declaration) (front : Front) (number site : ℕ) → FrontHolds decl front
    → IsNextCall front.doing number site → FrontHolds decl (requested front number site)
requested_holds decl front number site h next =
    requested_holds_in decl front.client front.transaction front.doing number site h next

-- messages that are no requests change nothing

no_request : (front : Front) (number to : ℕ) (message : Message) → is_request message ≡ false
    → numbered_one front number to message ≡ front
no_request front number to (messages.Request tx epoch life want) is = let never : ⊥ = cc in absurd never
no_request front number to (messages.Answer asked answer) is = refl
no_request front number to (messages.Decision tx verdict) is = refl
no_request front number to (messages.Inquiry tx) is = refl
no_request front number to (messages.Ask tx) is = refl
no_request front number to (messages.Close epoch) is = refl
no_request front number to (messages.Install start) is = refl

nobody_asked : (front : Front) (first : ℕ) (sends : List Posting) → AsksNobody sends
    → numbered_all front first sends ≡ front
nobody_asked front first [] none = refl
nobody_asked front first (p ∷ ps) none =
    ap (λ (f : Front). numbered_all f (first + 1) ps) (no_request front first p.to p.message (none p (inl refl)))
    ∙ nobody_asked front (first + 1) ps (λ q among. none q (inr among))

-- requests get their numbers one after another

all_asked : (make : List Call → Doing) →
    ((cs : List Call) (number site : ℕ) → requested_in (make cs) number site ≡ make (with_call cs number site))
    → (b : Begun) (want : ℕ → Want) (front : Front) (first : ℕ) (calls : List Call) (xs : List ℕ)
    → front.doing ≡ make calls
    → numbered_all front first (map (request_of b want) xs)
    ≡ record front { doing = make (calls ++ calls_from first xs) }
all_asked make more b want front first calls [] is =
    ap (λ (d : Doing). record front { doing = d }) (is ∙ ap make (sym (append-nil calls)))
all_asked make more b want front first calls (x ∷ xs) is =
    all_asked make more b want (requested front first x) (first + 1) (with_call calls first x) xs
    (ap (λ (d : Doing). requested_in d first x) is ∙ more calls first x)
    ∙ ap (λ (cs : List Call). record front { doing = make cs })
    (append_assoc calls (record { number = first; site = x } ∷ []) (calls_from (first + 1) xs))

same_sent : (front : Front) (first : ℕ) (doing : Doing) → front.doing ≡ doing → numbered doing first ≡ doing
    → front ≡ sent front first
same_sent front first doing is same = ap (λ (d : Doing). record front { doing = d })
    (sym (ap (λ (d : Doing). numbered d first) is ∙ same ∙ sym is))

some_calls : (calls : List Call) (xs : List ℕ) (first : ℕ) → (calls ≡ [] → ⊥) → numbered_from calls xs first ≡ calls
some_calls [] xs first some = absurd (some refl)
some_calls (c ∷ cs) xs first some = by (length (c ∷ cs) == 0) refl
  where
    by : (t : Bool) → (length (c ∷ cs) == 0) ≡ t → cond t (calls_from first xs) (c ∷ cs) ≡ c ∷ cs
    by true is = absurd (let none : length (c ∷ cs) ≡ 0 = eqb-true (length (c ∷ cs)) 0 is in omega arith)
    by false is = refl

open_calls : (calls : List Call) (round : RoundState) → IsAwaiting round → sites_called calls ≡ awaited round
    → calls ≡ [] → ⊥
open_calls calls round awaits full none = awaits_some round.asked awaits.open_still (sym full ∙ ap sites_called none)

module _ (make : List Call → Doing) (round : RoundState)
    (more : (cs : List Call) (number site : ℕ) → requested_in (make cs) number site ≡ make (with_call cs number site))
    (numbers : (cs : List Call) (first : ℕ) → numbered (make cs) first ≡ make (numbered_from cs (awaited round) first))
  where
    told_by : (b : Begun) (want : ℕ → Want) (front : Front) (first : ℕ) (calls : List Call) (sends : List Posting)
        → front.doing ≡ make calls → IsAwaiting round → AsksAll b want calls round sends
        → numbered_all front first sends ≡ sent front first
    told_by b want front first calls sends is awaits (inl quiet) =
        ap (numbered_all front first) quiet.0
        ∙ same_sent front first (make calls) is (numbers calls first
        ∙ ap make (some_calls calls (awaited round) first (open_calls calls round awaits quiet.1)))
    told_by b want front first calls sends is awaits (inr asks) =
        ap (numbered_all front first) asks.1
        ∙ all_asked make more b want front first [] (awaited round) (is ∙ ap make asks.0)
        ∙ ap (λ (d : Doing). record front { doing = d })
        (sym (ap (λ (d : Doing). numbered d first) (is ∙ ap make asks.0) ∙ numbers [] first))

full_by : (b : Begun) (want : ℕ → Want) (calls : List Call) (round : RoundState) (sends : List Posting) (first : ℕ)
    → IsAwaiting round → AsksAll b want calls round sends
    → sites_called (numbered_from calls (awaited round) first) ≡ awaited round
full_by b want calls round sends first awaits (inl quiet) =
    ap sites_called (some_calls calls (awaited round) first (open_calls calls round awaits quiet.1)) ∙ quiet.1
full_by b want calls round sends first awaits (inr asks) =
    ap (λ (cs : List Call). sites_called (numbered_from cs (awaited round) first)) asks.0
    ∙ from_sites first (awaited round)

pub asks_told : (decl : Declaration) (client : ℕ) (t : Option Transaction) (doing : Doing) (front : Front) (first : ℕ)
    (sends : List Posting) → front.doing ≡ doing → BegunHolds decl client t doing → AsksIn decl t doing sends
    → numbered_all front first sends ≡ sent front first
asks_told decl client t Idle front first sends is h asks = nobody_asked front first sends asks
    ∙ same_sent front first Idle is refl
asks_told decl client None (Reading object inv calls round) front first sends is h asks = let never : ⊥ = cc in
    absurd never
asks_told decl client None (Appending object inv event calls round) front first sends is h asks = let never : ⊥ = cc in
    absurd never
asks_told decl client (Some t) (Reading object inv calls round) front first sends is h asks =
    told_by (λ (cs : List Call). Reading object inv cs round) round (λ cs number site. refl) (λ cs n. refl) t.begun
    (read_want object inv) front first calls sends is h.1.awaits asks
asks_told decl client (Some t) (Appending object inv event calls round) front first sends is h asks =
    told_by (λ (cs : List Call). Appending object inv event cs round) round (λ cs number site. refl)
    (λ cs n. refl) t.begun (append_want decl t object event) front first calls sends is h.1.awaits asks

pub asks_numbered : (decl : Declaration) (client : ℕ) (t : Option Transaction) (doing : Doing) (first : ℕ)
    (sends : List Posting) → BegunHolds decl client t doing → AsksIn decl t doing sends
    → IsNumbered (numbered doing first)
asks_numbered decl client t Idle first sends h asks = tt
asks_numbered decl client None (Reading object inv calls round) first sends h asks = let never : ⊥ = cc in absurd never
asks_numbered decl client None (Appending object inv event calls round) first sends h asks = let never : ⊥ = cc in
    absurd never
asks_numbered decl client (Some t) (Reading object inv calls round) first sends h asks =
    full_by t.begun (read_want object inv) calls round sends first h.1.awaits asks
asks_numbered decl client (Some t) (Appending object inv event calls round) first sends h asks =
    full_by t.begun (append_want decl t object event) calls round sends first h.1.awaits asks
