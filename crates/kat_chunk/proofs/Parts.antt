-- The parts that a list of chunks stands for.
use Rattle.std.proofs.Common.{◌≡◌, ℕ, zero, suc, List, [], ◌∷◌, ◌++◌, Some, subst, slice_get}
use Rattle.kat_ast.specs.declared.decl.DeclForm.{DeclForm}
use Rattle.kat_syntax.specs.Fragments.{Fragment, Join}
use Rattle.kat_term.specs.Values.{Valuation}
use Rattle.kat_claims.specs.Fragments.{JoinsAreUnions}
use Rattle.kat_chunk.specs.declared.chunk.Chunk.{Chunk}
use Rattle.kat_chunk.specs.Chunks.{HasParts, IsPart}
use Rattle.kat_chunk.specs.Laws.{Focus}
use Rattle.kat_chunk.proofs.Options.{none_some, some_same}

module _ (joins : JoinsAreUnions) (decls : List DeclForm) (ρ : Valuation) where
  -- the chunk at a place has its part
  pub focus :
      (chunks : List Chunk) (at : ℕ) (chunk : Chunk) (p : Fragment) →
      HasParts decls ρ chunks p → slice_get chunks at ≡ Some chunk →
      Focus decls ρ chunks at chunk p
  focus [] at chunk p h e = none_some e
  focus (first ∷ chunks) zero chunk p h e = record {
    part = h.0;
    others = h.1;
    is = h.2;
    stands = subst (λ c. IsPart decls ρ c h.0) (some_same e) h.3;
    without = h.4;
    with = λ other f q k j. (f, h.1, j, k, h.4);
  }
  focus (first ∷ chunks) (suc at) chunk p h e =
      let inner = focus chunks at chunk h.1 h.4 e in
      let split = joins.associative (joins.symmetric h.2) inner.is in
      record {
        part = inner.part;
        others = split.0;
        is = split.1;
        stands = inner.stands;
        without = (h.0, inner.others, joins.symmetric split.2, h.3, inner.without);
        with = λ other f q k j.
            let back = joins.associative (joins.symmetric j) (joins.symmetric split.2) in
            (h.0, back.0, back.1, h.3, inner.with other f back.0 k (joins.symmetric back.2));
      }

  -- a chunk is added at the end
  pub added :
      (chunks : List Chunk) (chunk : Chunk) (p q f : Fragment) →
      Join p q f → HasParts decls ρ chunks q → IsPart decls ρ chunk f →
      HasParts decls ρ (chunks ++ chunk ∷ []) p
  added [] chunk p q f j h k = (f, q, joins.symmetric j, k, tt)
  added (first ∷ chunks) chunk p q f j h k =
      let split = joins.associative j h.2 in
      (h.0, split.0, split.1, h.3, added chunks chunk split.0 h.1 f split.2 h.4 k)

  -- more may be owned
  pub more_owned :
      (chunks : List Chunk) (p q rest : Fragment) →
      Join p q rest → HasParts decls ρ chunks q → HasParts decls ρ chunks p
  more_owned [] p q rest j h = tt
  more_owned (first ∷ chunks) p q rest j h =
      let split = joins.associative j h.2 in
      (h.0, split.0, split.1, h.3, more_owned chunks split.0 h.1 rest split.2 h.4)
