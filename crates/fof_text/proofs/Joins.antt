-- Writers whose words can be told apart when they are read back.
use Rattle.std.proofs.Common.{inl, inr, List, [], ◌∷◌, ◌++◌, refl, ℕ, ◌+◌, ◌<◌}
use Rattle.std.specs.Prelude.{codes, ◌^◌}
use Rattle.tptp_words.specs.declared.word.WordKind.TheVariants.{Mark}
use Rattle.tptp_words.specs.Text.{Token, Spells}
use Rattle.tptp_words.proofs.Longest.{Begin, run, Ends}
use Rattle.fof_text.specs.Written.{Writer, mark_word, more, separated, in_brackets, side_by_side}
use Rattle.fof_text.specs.Written.{applied, name_word, dollar_word, variable_word, quantified}
use Rattle.fof_text.specs.Written.{after}
use Rattle.fof_text.proofs.Spelled.{Stops, done_ends, Joined, text, Joins, variable_is}

abbrev pub AllJoin : List Writer → Type 0
AllJoin [] = Unit {0}
AllJoin (w ∷ ws) = Joins w × AllJoin ws

-- a mark at which words end, and at whose end any word may begin
pub record Parts (m : List ℕ) : Type 0 where
  pub spelled : Spells Mark m
  pub stops : (rest : List Token) → Stops (text (mark_word m ∷ rest))
  pub ends : (rest : List Token) → Ends (run Begin m) (after (mark_word m) ++ text rest)

pub more_joins : (m : List ℕ) → Parts m → (ws : List Writer) → AllJoin ws → (rest : List Token)
    → Joined rest → Stops (text rest)
    → Joined (more (mark_word m) ws rest) × Stops (text (more (mark_word m) ws rest))
more_joins m p [] h rest j s = (j, s)
more_joins m p (w ∷ ws) h rest j s =
    let tail = more_joins m p ws h.1 rest j s in (
      (
        p.spelled,
        p.ends (w (more (mark_word m) ws rest)),
        h.0.joined
            (more (mark_word m) ws rest) tail.0 tail.1,
      ),
      p.stops (w (more (mark_word m) ws rest)),
    )

pub separated_joins : (m : List ℕ) → Parts m → (w : Writer) (ws : List Writer) → AllJoin (w ∷ ws)
    → Joins (separated (mark_word m) (w ∷ ws))
separated_joins m p w ws h = record {
  joined = λ rest j s. let tail =
      more_joins m p ws h.1 rest j s in h.0.joined (more (mark_word m) ws rest) tail.0 tail.1;
  begins = λ rest. h.0.begins (more (mark_word m) ws rest);
}

-- the marks between parts
pub comma_parts : Parts (codes ",")
comma_parts = record {
  spelled = inr (inr (inr (inr (inl refl))));
  stops =
      λ rest. record { name = refl; digits = refl; done = refl };
  ends = λ rest. done_ends _;
}

pub equals_parts : Parts (codes "=")
equals_parts = record {
  spelled = inr (inr (inr (inr (inr (inr (inr (inl refl)))))));
  stops =
      λ rest. record { name = refl; digits = refl; done = refl };
  ends = λ rest. refl;
}

pub unequal_parts : Parts (codes "!=")
unequal_parts = record {
  spelled = inr (inr (inr (inr (inr (inr (inr (inr (inl refl))))))));
  stops =
      λ rest. record { name = refl; digits = refl; done = refl };
  ends = λ rest. refl;
}

pub and_parts : Parts (codes "&")
and_parts = record {
  spelled =
      inr (inr (inr (inr (inr (inr (inr (inr (inr (inr (inl refl))))))))));
  stops =
      λ rest. record { name = refl; digits = refl; done = refl };
  ends = λ rest. refl;
}

pub or_parts : Parts (codes "|")
or_parts = record {
  spelled =
      inr (inr (inr (inr (inr (inr (inr (inr (inr (inr (inr (inl refl)))))))))));
  stops =
      λ rest. record { name = refl; digits = refl; done = refl };
  ends = λ rest. refl;
}

pub implies_parts : Parts (codes "=>")
implies_parts = record {
  spelled =
      inr (inr (inr (inr (inr (inr (inr (inr (inr (inr (inr (inr (inl refl))))))))))));
  stops =
      λ rest. record { name = refl; digits = refl; done = refl };
  ends = λ rest. refl;
}

pub close_stops : (rest : List Token) → Stops (text (mark_word (codes ")") ∷ rest))
close_stops rest = record { name = refl; digits = refl; done = refl }

pub close_joined : (rest : List Token) → Joined rest → Joined (mark_word (codes ")") ∷ rest)
close_joined rest j = (inr (inl refl), done_ends _, j)

pub bracketed : (w : Writer) → Joins w → Joins (in_brackets w)
bracketed w h = record {
  joined = λ rest j s. (
    inl refl,
    done_ends _,
    h.joined (mark_word (codes ")") ∷ rest)
        (close_joined rest j) (close_stops rest),
  );
  begins = λ rest. refl;
}

pub sides_join : (m : List ℕ) → Parts m → (a b : Writer) → Joins a → Joins b
    → Joins (side_by_side m a b)
sides_join m p a b h k = record {
  joined = λ rest j s. h.joined (mark_word m ∷ b rest)
      (p.spelled, p.ends (b rest), k.joined rest j s) (p.stops (b rest));
  begins = λ rest. h.begins (mark_word m ∷ b rest);
}

-- p or p(t,t)
pub applied_joins : (n : List ℕ) → Joins (λ rest. name_word n ∷ rest) → (ws : List Writer)
    → AllJoin ws → Joins (applied n ws)
applied_joins n h [] k = h
applied_joins n h (w ∷ ws) k =
    let inside = bracketed (separated (mark_word (codes ",")) (w ∷ ws))
    (separated_joins (codes ",") comma_parts w ws k) in record {
      joined = λ rest j s. h.joined (in_brackets (separated (mark_word (codes ",")) (w ∷ ws)) rest)
          (inside.joined rest j s) (record { name = refl; digits = refl; done = refl });
      begins = λ rest. h.begins (in_brackets (separated (mark_word (codes ",")) (w ∷ ws)) rest);
    }

-- ---- quantifiers

-- m [ X ] : u, where m is ! or ?
quantified_joined : (m : List ℕ)
    → ((more : List Token) → Joined (mark_word (codes "[") ∷ more)
    → Joined (mark_word m ∷ mark_word (codes "[") ∷ more))
    → (d : ℕ) → d < 2 ^ 64 → (body : ℕ → Writer) → Joins (body (d + 1)) → (rest : List Token)
    → Joined rest → Stops (text rest) → Joined (quantified m body d rest)
quantified_joined m first d l body h rest j s =
    let scope : List Token = body (d + 1) rest in
    let closing : List Token = mark_word (codes "]") ∷ mark_word (codes ":") ∷ scope in
    let colon : Joined (mark_word (codes ":") ∷ scope) =
    (inr (inr (inr (inr (inr (inr (inl refl)))))), refl, h.joined rest j s) in
    let closed : Joined closing =
    (inr (inr (inr (inl refl))), done_ends (text (mark_word (codes ":") ∷ scope)), colon) in
    first (variable_word d ∷ closing) (
      inr (inr (inl refl)),
      done_ends (text (variable_word d ∷ closing)),
      (variable_is d l).joins.joined closing closed
          (record { name = refl; digits = refl; done = refl }),
    )

pub for_all_joins : (d : ℕ) → d < 2 ^ 64 → (body : ℕ → Writer) → Joins (body (d + 1))
    → Joins (quantified (codes "!") body d)
for_all_joins d l body h = record {
  joined = quantified_joined (codes "!")
      (λ more k. (
        inr (inr (inr (inr (inr (inr (inr (inr (inr (inr (inr (inr (inr (inr (inr (inr (inr (inr
            (inl refl)))))))))))))))))),
        refl,
        k,
      )) d l body h;
  begins = λ rest. refl;
}

pub exists_joins : (d : ℕ) → d < 2 ^ 64 → (body : ℕ → Writer) → Joins (body (d + 1))
    → Joins (quantified (codes "?") body d)
exists_joins d l body h = record {
  joined = quantified_joined (codes "?")
      (λ more k. (
        inr (inr (inr (inr (inr
            (inr (inr (inr (inr (inr (inr (inr (inr (inr (inr (inr (inr (inr (inr
            (inl refl))))))))))))))))))),
        refl,
        k,
      )) d l body h;
  begins = λ rest. refl;
}

-- ---- negations and fixed words

pub negated_joins : (w : Writer) → Joins w → Joins (λ rest. mark_word (codes "~") ∷ w rest)
negated_joins w h = record {
  joined = λ rest j s. (
    inr (inr (inr (inr (inr
        (inr (inr (inr (inr (inl refl))))))))),
    h.begins rest,
    h.joined rest j s,
  );
  begins = λ rest. refl;
}

pub true_joins : Joins (λ rest. dollar_word (codes "$true") ∷ rest)
true_joins = record {
  joined = λ rest j s. ((codes "true", (refl, (refl, (refl, (refl, tt)))), refl), s.name, j);
  begins = λ rest. refl;
}

pub false_joins : Joins (λ rest. dollar_word (codes "$false") ∷ rest)
false_joins = record {
  joined = λ rest j s. (
    (
      codes "false",
      (refl, (refl, (refl, (refl, (refl, tt))))),
      refl,
    ),
    s.name,
    j,
  );
  begins = λ rest. refl;
}
