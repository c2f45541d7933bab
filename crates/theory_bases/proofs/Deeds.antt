-- Each deed of a site keeps it a site of its epoch: an Install makes it one of the epoch that is installed.
use Rattle.std.proofs.Common.{◌≡◌, inl, inr, ℕ, List, [], ◌∷◌, Option, Some, None, refl, sym, subst}
use Rattle.qc_stamp.specs.declared.stamp.Stamp.{Stamp}
use Rattle.qc_stamp.specs.declared.stamp.TxId.{TxId}
use Rattle.qc_entry.specs.declared.line.Line.{Line}
use Rattle.qc_entry.specs.declared.line.OwnLine.{OwnLine}
use Rattle.qc_decl.specs.declared.declaration.Declaration.{Declaration}
use Rattle.qc_list.specs.Vocabulary.{In}
use Rattle.theory_onecopy.specs.Vocabulary.{committed_line}
use Rattle.theory_machine.specs.Vocabulary.{Closes, Decision, Deed, Grants, Installs, Item, LearnsAbort, LearnsCommit}
use Rattle.theory_machine.specs.Vocabulary.{Own, Prepares, Promise, Rises, Site, SiteLaws, Status, after_commit}
use Rattle.theory_machine.specs.Vocabulary.{after_deed, after_prepare, each_held, epoch_from, held_by_promises}
use Rattle.theory_machine.specs.Vocabulary.{items_of, promise_of, stamped_lines}
use Rattle.theory_machine.proofs.Sound.{committed_line_in}
use Rattle.theory_machine.proofs.SiteLists.{items_of-append, in_dropped, found}
use Rattle.theory_bases.specs.Vocabulary.{BelongsTo, IsInherited, IsOwnWrittenIn, IsSiteOfEpoch, IsWrittenIn}
use Rattle.theory_bases.proofs.Items.{left_over, of_each, of_promises}
use Rattle.qc_list.proofs.Members.{In-either}

module _ (decl : Declaration) (status : TxId → Status) (epoch : TxId → ℕ) (decided : List Decision) where
  -- a stamped own line that was written in the epoch is a line that was
  line_of_own : (k : ℕ) (tx : TxId) (stamp : Stamp) (o : OwnLine) (l : Line) → IsOwnWrittenIn decl status epoch k tx o
      → l ≡ committed_line stamp tx o → IsWrittenIn decl status epoch k l
  line_of_own k tx stamp o l h e = subst (λ (x : Line). IsWrittenIn decl status epoch k x) (sym e)
      (record { begun = h.begun; writer = h.writer; weighs = h.weighs })

  by_promises : (k : ℕ) (ps : List Promise)
      → ((p : Promise) (o : OwnLine) → In p ps → In (Own o) p.items → IsOwnWrittenIn decl status epoch k p.tx o)
      → (tx : TxId) (o : OwnLine) → In (Own o) (items_of tx (held_by_promises ps))
      → IsOwnWrittenIn decl status epoch k tx o
  by_promises k ps all tx o h = let r = of_promises ps tx (Own o) h in
      subst (λ (t : TxId). IsOwnWrittenIn decl status epoch k t o) r.its (all r.by o r.listed r.has)

  prepare_keeps : (k : ℕ) (s : Site) (tx : TxId) (p : Option Promise) → IsSiteOfEpoch decl status epoch decided k s
      → IsSiteOfEpoch decl status epoch decided k (after_prepare tx p s)
  prepare_keeps k s tx (Some p) h = h
  prepare_keeps k s tx None h = record {
    lines = h.lines;
    held = h.held;
    promised = λ q o i j. elim i [
      | inl e ↦ subst (λ (x : Promise). In (Own o) x.items → IsOwnWrittenIn decl status epoch k x.tx o) (sym e)
          (h.held tx o) j
      | inr r ↦ h.promised q o (in_dropped q tx s.promises r).0 j
    ];
  }

  commit_keeps : (k : ℕ) (s : Site) (tx : TxId) (stamp : Stamp) (p : Option Promise) → promise_of tx s.prepared ≡ p
      → SiteLaws s → IsSiteOfEpoch decl status epoch decided k s
      → IsSiteOfEpoch decl status epoch decided k (after_commit tx stamp p s)
  commit_keeps k s tx stamp None e w h = record
      { lines = h.lines; held = λ u o i. h.held u o (left_over tx u (Own o) s.held i); promised = h.promised }
  commit_keeps k s tx stamp (Some p) e w h =
      let f = found tx s.prepared p e in
      record {
        lines = λ l i. elim (In-either l (stamped_lines tx stamp p.items) s.volatile i) [
          | inl a ↦ let r = committed_line_in tx stamp p.items l a in
              inl (line_of_own k tx stamp r.own l (subst (λ (t : TxId). IsOwnWrittenIn decl status epoch k t r.own) f.1
              (h.promised p r.own (w.prepared p f.0) r.listed)) r.is)
          | inr b ↦ h.lines l b
        ];
        held = λ u o i. h.held u o (left_over tx u (Own o) s.held i);
        promised = λ q o i j. h.promised q o (in_dropped q tx s.promises i).0 j;
      }

  -- what a deed brings to a site in epoch k is of it, or what it installs is of the epoch that is installed
  abbrev pub Brings : ℕ → Deed → Type 0
  Brings k (Grants tx items view) = ((l : Line) → In l view → BelongsTo decl status epoch decided k l)
      × ((o : OwnLine) → In (Own o) items → IsOwnWrittenIn decl status epoch k tx o)
  Brings k (Prepares tx) = Unit {0}
  Brings k (LearnsCommit tx stamp) = Unit {0}
  Brings k (LearnsAbort tx) = Unit {0}
  Brings k Closes = Unit {0}
  Brings k (Installs j c log) = (l : Line) → In l log → IsInherited decided j l
  Brings k Rises = Unit {0}

  pub deed_keeps : (k : ℕ) (s : Site) (d : Deed) → Brings k d → SiteLaws s → IsSiteOfEpoch decl status epoch decided k s
      → IsSiteOfEpoch decl status epoch decided (epoch_from k (d ∷ [])) (after_deed s d)
  deed_keeps k s (Grants tx items view) ok w h = record {
    lines = λ l i. elim (In-either l view s.volatile i) [ inl a ↦ ok.0 l a | inr b ↦ h.lines l b ];
    held = λ u o i. elim (In-either (Own o) (items_of u (each_held tx items)) (items_of u s.held)
        (subst (λ (xs : List Item). In (Own o) xs) (items_of-append u (each_held tx items) s.held) i)) [
          | inl a ↦ let e = of_each tx u (Own o) items a in
              subst (λ (t : TxId). IsOwnWrittenIn decl status epoch k t o) (sym e.0) (ok.1 o e.1)
          | inr b ↦ h.held u o b
        ];
    promised = h.promised;
  }
  deed_keeps k s (Prepares tx) ok w h = prepare_keeps k s tx (promise_of tx s.prepared) h
  deed_keeps k s (LearnsCommit tx stamp) ok w h = commit_keeps k s tx stamp (promise_of tx s.prepared) refl w h
  deed_keeps k s (LearnsAbort tx) ok w h =
      record { lines = h.lines; held = λ u o i. h.held u o (left_over tx u (Own o) s.held i); promised = h.promised }
  deed_keeps k s Closes ok w h = record {
    lines = h.lines;
    held = by_promises k s.prepared (λ p o i j. h.promised p o (w.prepared p i) j);
    promised = h.promised;
  }
  deed_keeps k s (Installs j c log) ok w h =
      record { lines = λ l i. inr (ok l i); held = λ u o i. absurd i; promised = λ p o i j. absurd i }
  deed_keeps k s Rises ok w h = record {
    lines = λ l i. h.lines l (w.less l i);
    held = by_promises k s.promises h.promised;
    promised = h.promised;
  }
