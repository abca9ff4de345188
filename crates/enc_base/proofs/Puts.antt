-- Pieces that were put one after another.
use Rattle.std.proofs.Common.{◌≡◌, ℕ, Bool, true, false, List, [], ◌++◌, Option, None, Some}
use Rattle.std.proofs.Common.{refl, sym, ap, ◌∙◌, subst, arith, append-nil, append_assoc}
use Rattle.std.proofs.Common.{if◌then◌else◌, take, drop}
use Rattle.std.proofs.lemmas.List.{take-append-drop}
use Rattle.std.specs.Prelude.{Result, Ok, Err, OnOk, OnErr, is_ok}
use Rattle.std.specs.Io.KnownBytes.{Appends}
use Rattle.enc_base.specs.Counts.{Rose}
use Rattle.enc_base.specs.Sink.{AppendsPrefix}
use Rattle.enc_base.specs.Pending.{Waiting, HasSent, Put, left, Finished, Broken}
use Rattle.enc_base.proofs.Written.{both, prefix_first, prefix_second}

-- ---- composition

-- a piece, and then another
pub then_put : {u v w : Waiting} {a b c : Option (List ℕ)} {f g h : ℕ} {xs ys : List ℕ}
    → Put u v a b f g xs → Put v w b c g h ys → Put u w a c f h (xs ++ ys)
then_put {u} {v} {w} {a} {b} {c} {f} {g} {h} {xs} {ys} p q = record {
  it = λ start faults text sent. subst (λ t. HasSent start faults t w c h)
      (append_assoc text xs ys) (q.it start faults (text ++ xs) (p.it start faults text sent));
}

-- the same piece
pub put_as : {u v : Waiting} {a b : Option (List ℕ)} {f g : ℕ} {xs ys : List ℕ} → xs ≡ ys
    → Put u v a b f g xs → Put u v a b f g ys
put_as {u} {v} {a} {b} {f} {g} e p = subst (λ z. Put u v a b f g z) e p

-- no piece
pub put_none : (u : Waiting) (a : Option (List ℕ)) (f : ℕ) → Put u u a a f f []
put_none u a f = record {
  it = λ start faults text sent.
      subst (λ t. HasSent start faults t u a f) (sym (append-nil text)) sent;
}

-- ---- steps

-- after a write that failed nothing is sent
pub put_stopped : (w : Waiting) (a : Option (List ℕ)) (f : ℕ) (piece : List ℕ) → w ≡ None
    → Put w w a a f f piece
put_stopped w a f piece is = subst (λ z. Put z z a a f f piece) (sym is) record {
  it = λ start faults text sent. (prefix_first start a text piece sent.0, sent.1);
}

-- the piece waits
pub put_stored : (waiting piece : List ℕ) (a : Option (List ℕ)) (f : ℕ)
    → Put (Some waiting) (Some (waiting ++ piece)) a a f f piece
put_stored waiting piece a f = record {
  it = λ start faults text sent. (
    sent.0,
    sent.1,
    ap (λ t. t ++ piece) sent.2 ∙ append_assoc sent.0 waiting piece,
    sent.3,
  );
}

-- what waited is sent
pub put_flushed : (waiting : List ℕ) (a b : Option (List ℕ)) (f g : ℕ) → Appends a b waiting
    → g ≡ f → Put (Some waiting) (Some []) a b f g []
put_flushed waiting a b f g sends same = record {
  it = λ start faults text sent. (
    sent.0 ++ waiting,
    both start a b sent.0 waiting sent.1 sends,
    ap (λ t. t ++ []) sent.2,
    same ∙ sent.3,
  );
}

-- what waited was not sent whole
pub put_broken : (waiting : List ℕ) (a b : Option (List ℕ)) (f g : ℕ) → AppendsPrefix a b waiting
    → Rose f g → Put (Some waiting) None a b f g []
put_broken waiting a b f g sends rose = record {
  it = λ start faults text sent. (
    subst (λ t. AppendsPrefix start b t) (sym sent.2 ∙ sym (append-nil text))
        (prefix_second start a b sent.0 waiting sent.1 sends),
    omega (arith, rose, sent.3),
  );
}

-- what waited was given to a write, which went well or failed
pub put_written : {A E : Type 0} (r : Result A E) (well : Bool) (waiting : List ℕ)
    (a b : Option (List ℕ)) (f g : ℕ) → well ≡ is_ok r → OnOk r (Appends a b waiting)
    → OnErr r (AppendsPrefix a b waiting) → OnErr r (Rose f g) → OnOk r (g ≡ f)
    → Put (Some waiting) (left well []) a b f g []
put_written (Ok x) well waiting a b f g is sends part rose same =
    subst (λ z. Put (Some waiting) (left z []) a b f g []) (sym is)
    (put_flushed waiting a b f g sends same)
put_written (Err e) well waiting a b f g is sends part rose same =
    subst (λ z. Put (Some waiting) (left z []) a b f g []) (sym is)
    (put_broken waiting a b f g part rose)

-- a piece was given to a write, while nothing waited
pub put_directly : {A E : Type 0} (r : Result A E) (well : Bool) (piece : List ℕ)
    (a b : Option (List ℕ)) (f g : ℕ) → well ≡ is_ok r → OnOk r (Appends a b piece)
    → OnErr r (AppendsPrefix a b piece) → OnErr r (Rose f g) → OnOk r (g ≡ f)
    → Put (Some []) (left well []) a b f g piece
put_directly r well piece a b f g is sends part rose same =
    put_as (append-nil piece)
    (then_put (put_stored [] piece a f) (put_written r well piece a b f g is sends part rose same))

-- Bytes are filled up with the first n bytes of a piece and sent, and then comes the rest.
pub put_filled : {u v : Waiting} {a b c : Option (List ℕ)} {f g h : ℕ}
    (n : ℕ) (waiting piece first rest held : List ℕ)
    → first ≡ take n piece → rest ≡ drop n piece → held ≡ waiting ++ first
    → Put (Some held) u a b f g [] → Put u v b c g h rest → Put (Some waiting) v a c f h piece
put_filled {u} {v} {a} {b} {c} {f} {g} {h} n waiting piece first rest held front back is p q =
    let whole : first ++ rest ≡ piece =
    ap (λ z. z ++ rest) front ∙ ap (λ z. take n piece ++ z) back ∙ take-append-drop n piece in
    put_as whole (then_put (put_stored waiting first a f)
    (then_put (subst (λ z. Put (Some z) u a b f g []) is p) q))

-- ---- what a call sees of the bytes that wait

-- no write has failed
pub still_waits : (failed : Bool) (items : List ℕ) (w : Waiting)
    → (if failed then None else Some items) ≡ w → failed ≡ false → w ≡ Some items
still_waits failed items w is well =
    sym is ∙ ap (λ (b : Bool). if b then None else Some items) well

-- a write failed
pub has_stopped : (failed : Bool) (items : List ℕ) (w : Waiting)
    → (if failed then None else Some items) ≡ w → failed ≡ true → w ≡ None
has_stopped failed items w is well =
    sym is ∙ ap (λ (b : Bool). if b then None else Some items) well

-- ---- the end

pub finished : (waiting : List ℕ) (a b : Option (List ℕ)) (f g : ℕ) → Appends a b waiting
    → g ≡ f → Finished (Some waiting) a b f g
finished waiting a b f g sends same = record {
  it = λ start faults text sent. (
    subst (λ t. Appends start b t) (sym sent.2) (both start a b sent.0 waiting sent.1 sends),
    same ∙ sent.3,
  );
}

pub broken : {A E : Type 0} (r : Result A E) (w : Waiting) (waiting : List ℕ)
    (a b : Option (List ℕ)) (f g : ℕ) → w ≡ Some waiting → OnErr r (AppendsPrefix a b waiting)
    → OnErr r (Rose f g) → OnErr r (Broken w a b f g)
broken (Ok x) w waiting a b f g is sends rose = tt
broken (Err e) w waiting a b f g is sends rose =
    subst (λ z. Broken z a b f g) (sym is) record {
      it = λ start faults text sent. (
        subst (λ t. AppendsPrefix start b t) (sym sent.2)
            (prefix_second start a b sent.0 waiting sent.1 sends),
        omega (arith, rose, sent.3),
      );
    }

pub still_broken : (a : Option (List ℕ)) (f : ℕ) → Broken None a a f f
still_broken a f = record { it = λ start faults text sent. sent }

-- ---- a text that was put from the beginning

-- nothing was sent yet
nothing_sent : (a : Option (List ℕ)) (f : ℕ) → HasSent a f [] (Some []) a f
nothing_sent None f = ([], tt, refl, refl)
nothing_sent (Some xs) f = ([], sym (append-nil xs), refl, refl)

-- the text is in the sink, and no fault was counted
pub all_sent : {u w : Waiting} {a b c : Option (List ℕ)} {f g h : ℕ} {xs : List ℕ} → u ≡ Some []
    → Put u w a b f g xs → Finished w b c g h → Appends a c xs × (h ≡ f)
all_sent {u} {w} {a} {b} {c} {f} {g} {h} {xs} new p q = q.it a f xs
    (p.it a f [] (subst (λ z. HasSent a f [] z a f) (sym new) (nothing_sent a f)))

-- a prefix of the text is in the sink, and the count rose
pub some_sent : {u w : Waiting} {a b c : Option (List ℕ)} {f g h : ℕ} {xs : List ℕ} → u ≡ Some []
    → Put u w a b f g xs → Broken w b c g h → AppendsPrefix a c xs × Rose f h
some_sent {u} {w} {a} {b} {c} {f} {g} {h} {xs} new p q = q.it a f xs
    (p.it a f [] (subst (λ z. HasSent a f [] z a f) (sym new) (nothing_sent a f)))

-- ---- what follows of an answer

-- where the call succeeds
pub where_ok : {A E P Q : Type 0} (r : Result A E) → (P → Q) → OnOk r P → OnOk r Q
where_ok (Ok x) follows holds = follows holds
where_ok (Err e) follows holds = tt

-- where it fails
pub where_failed : {A E P Q : Type 0} (r : Result A E) → (P → Q) → OnErr r P → OnErr r Q
where_failed (Ok x) follows holds = tt
where_failed (Err e) follows holds = follows holds
