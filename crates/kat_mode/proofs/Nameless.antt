-- Expressions with no names in them.
use Rattle.std.proofs.Common.{◌≡◌, ◌⊎◌, inl, inr, ℕ, Bool, List, Ok, ap, ◌∙◌}
use Rattle.kat_ast.specs.declared.expr.Expr.{Expr}
use Rattle.kat_ast.specs.declared.expr.Expr.TheVariants as v
use Rattle.kat_ast.specs.declared.expr.Expr.TheOpen as layer
use Rattle.kat_ast.specs.declared.expr.Expr.TheViews as views
use Rattle.kat_ast.specs.declared.expr.Expr.TheViews.{out-Expr}
use Rattle.kat_syntax.specs.Tables.{Name}
use Rattle.kat_syntax.specs.Modes.{Read, read_names, used_in}
use Rattle.kat_mode.specs.Reading.{Follows}
use Rattle.kat_mode.proofs.Going.{all_left}
use Rattle.kat_mode.proofs.Layers.{names_at}

-- a form that holds no expression and is no name
abbrev pub HasNoNames : Expr → Type 0
HasNoNames e = (((e ≡ v.Unit)) ⊎
    (((a : Bool) × (e ≡ v.Truth a)) ⊎
    (((a : ℕ) × (b : ℕ) × (e ≡ v.Bits a b)) ⊎
    (((a : Name) × (b : Name) × (e ≡ v.Of a b)) ⊎
    (((a : Name) × (e ≡ v.Register a)) ⊎
    (((a : Name) × (e ≡ v.Kept a)) ⊎
    (((a : ℕ) × (e ≡ v.KeptCell a)) ⊎
    (((a : Name) × (e ≡ v.Before a)) ⊎
    (((a : Name) × (e ≡ v.After a)) ⊎
    (((a : ℕ) × (e ≡ v.BeforeCell a)) ⊎ ((a : ℕ) × (e ≡ v.AfterCell a))))))))))))

pub no_names : (e : Expr) (old : List Name) → HasNoNames e →
    Follows (read_names (used_in e).names) old old (Ok tt)
no_names e old (inl is) =
    names_at e layer.Unit old old (Ok tt) (ap out-Expr is ∙ views.outs-Unit)
    (all_left (λ u. Read u) old)
no_names e old (inr (inl (a, is))) =
    names_at e (layer.Truth a) old old (Ok tt) (ap out-Expr is ∙ views.outs-Truth a)
    (all_left (λ u. Read u) old)
no_names e old (inr (inr (inl (a, b, is)))) =
    names_at e (layer.Bits a b) old old (Ok tt) (ap out-Expr is ∙ views.outs-Bits a b)
    (all_left (λ u. Read u) old)
no_names e old (inr (inr (inr (inl (a, b, is))))) =
    names_at e (layer.Of a b) old old (Ok tt) (ap out-Expr is ∙ views.outs-Of a b)
    (all_left (λ u. Read u) old)
no_names e old (inr (inr (inr (inr (inl (a, is)))))) =
    names_at e (layer.Register a) old old (Ok tt) (ap out-Expr is ∙ views.outs-Register a)
    (all_left (λ u. Read u) old)
no_names e old (inr (inr (inr (inr (inr (inl (a, is))))))) =
    names_at e (layer.Kept a) old old (Ok tt) (ap out-Expr is ∙ views.outs-Kept a)
    (all_left (λ u. Read u) old)
no_names e old (inr (inr (inr (inr (inr (inr (inl (a, is)))))))) =
    names_at e (layer.KeptCell a) old old (Ok tt) (ap out-Expr is ∙ views.outs-KeptCell a)
    (all_left (λ u. Read u) old)
no_names e old (inr (inr (inr (inr (inr (inr (inr (inl (a, is))))))))) =
    names_at e (layer.Before a) old old (Ok tt) (ap out-Expr is ∙ views.outs-Before a)
    (all_left (λ u. Read u) old)
no_names e old (inr (inr (inr (inr (inr (inr (inr (inr (inl (a, is)))))))))) =
    names_at e (layer.After a) old old (Ok tt) (ap out-Expr is ∙ views.outs-After a)
    (all_left (λ u. Read u) old)
no_names e old (inr (inr (inr (inr (inr (inr (inr (inr (inr (inl (a, is))))))))))) =
    names_at e (layer.BeforeCell a) old old (Ok tt) (ap out-Expr is ∙ views.outs-BeforeCell a)
    (all_left (λ u. Read u) old)
no_names e old (inr (inr (inr (inr (inr (inr (inr (inr (inr (inr (a, is))))))))))) =
    names_at e (layer.AfterCell a) old old (Ok tt) (ap out-Expr is ∙ views.outs-AfterCell a)
    (all_left (λ u. Read u) old)
