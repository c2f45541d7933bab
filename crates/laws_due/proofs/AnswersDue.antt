-- An answer that a client takes: its turn is due, and the tie holds after it.
use Rattle.std.proofs.Common.{[], ◌≡◌, ℕ, List, ◌∷◌, map, Option, refl, ap}
use Rattle.qc_decl.specs.declared.declaration.Declaration.{Declaration}
use Rattle.qc_front.specs.Vocabulary.{sites_of}
use Rattle.qc_client.specs.declared.client.Client.{Client}
use Rattle.qc_client.specs.Vocabulary.{answered}
use Rattle.qc_msg.specs.declared.message.Answer.{Answer}
use Rattle.qc_promise.specs.Vocabulary.{Account, ClientRequest, asked_by, counted}
use Rattle.laws_due.specs.Vocabulary.{Goes, Holds}
use Rattle.laws_due.proofs.OpenRequests.{sites_in}

-- the sites that were asked

pub asked_sites : (hs : List ClientRequest) → sites_of (map asked_by hs) ≡ sites_in hs
asked_sites [] = refl
asked_sites (q ∷ hs) = ap (λ (v : List ℕ). q.site ∷ v) (asked_sites hs)

module _ (decl : Declaration) (number : ℕ) (d : Account) (c : Client) (h : Holds decl c) where
  -- answers

  abbrev Answered : ℕ → Option Answer → Type 0
  Answered n answer = Goes decl number (counted d n answer) (answered decl c n answer)
