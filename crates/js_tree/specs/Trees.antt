-- Trees without places and numbers.
use Rattle.std.specs.Prelude.{ℕ, Bool, List, Option}
use Rattle.js_tree_operators.specs.declared.operator.UnaryOperator.{UnaryOperator}
use Rattle.js_tree_operators.specs.declared.operator.UpdateOperator.{UpdateOperator}
use Rattle.js_tree_operators.specs.declared.operator.BinaryOperator.{BinaryOperator}
use Rattle.js_tree_operators.specs.declared.operator.AssignmentOperator.{AssignmentOperator}

-- a name, by its code units
abbrev pub Identifier : Type 0
Identifier = List ℕ

-- the parameters of an arrow function: one name, or names in parentheses
pub data Parameters : Type 0 where
  one_name : Identifier → Parameters
  name_list : List Identifier → Parameters

-- the forms of the grammar; a list of parts is a type of its own
mutual
  pub data Expression : Type 0 where
    this : Expression
    name : Identifier → Expression
    number : ℕ → Expression
    string : List ℕ → Expression
    boolean : Bool → Expression
    null : Expression
    array : Expressions → Expression
    object : PropertyDefinitions → Expression
    function : Option Identifier → List Identifier → Statements → Expression
    arrow : Parameters → Expression → Expression
    arrow_block : Parameters → Statements → Expression
    parenthesized : Expression → Expression
    member : Expression → List ℕ → Expression
    index : Expression → Expression → Expression
    call : Expression → Expressions → Expression
    postfix : UpdateOperator → Expression → Expression
    prefix : UpdateOperator → Expression → Expression
    unary : UnaryOperator → Expression → Expression
    binary : BinaryOperator → Expression → Expression → Expression
    conditional : Expression → Expression → Expression → Expression
    assign : AssignmentOperator → Expression → Expression → Expression
    comma : Expressions → Expression

  pub data Expressions : Type 0 where
    no_expressions : Expressions
    an_expression : Expression → Expressions → Expressions

  -- an expression that may be left out
  pub data OptionalExpression : Type 0 where
    omitted : OptionalExpression
    present : Expression → OptionalExpression

  -- the key of a member of an object literal
  pub data Key : Type 0 where
    word_key : List ℕ → Key
    string_key : List ℕ → Key
    number_key : ℕ → Key
    computed_key : Expression → Key

  -- a member of an object literal
  pub data PropertyDefinition : Type 0 where
    shorthand : Identifier → PropertyDefinition
    value : Key → Expression → PropertyDefinition
    method : Key → List Identifier → Statements → PropertyDefinition

  pub data PropertyDefinitions : Type 0 where
    no_properties : PropertyDefinitions
    a_property : PropertyDefinition → PropertyDefinitions → PropertyDefinitions

  -- a declared name with its initializer
  pub data Declarator : Type 0 where
    declarator : Identifier → OptionalExpression → Declarator

  pub data Declarators : Type 0 where
    no_declarators : Declarators
    a_declarator : Declarator → Declarators → Declarators

  -- the Bool of a declaration says whether it is constant
  pub data Statement : Type 0 where
    block : Statements → Statement
    lexical : Bool → Declarators → Statement
    empty : Statement
    expression : Expression → Statement
    if_then : Expression → Statement → Statement
    if_else : Expression → Statement → Statement → Statement
    do_while : Statement → Expression → Statement
    while : Expression → Statement → Statement
    for : OptionalExpression → OptionalExpression → OptionalExpression → Statement → Statement
    for_lexical : Bool → Declarators → OptionalExpression → OptionalExpression → Statement → Statement
    for_of : Bool → Identifier → Expression → Statement → Statement
    continue : Statement
    break : Statement
    return : OptionalExpression → Statement
    throw : Expression → Statement
    try : Statements → Handler → Finalizer → Statement
    debugger : Statement
    declared_function : Identifier → List Identifier → Statements → Statement

  -- the catch of a try
  pub data Handler : Type 0 where
    no_catch : Handler
    catch : Option Identifier → Statements → Handler

  -- the finally of a try
  pub data Finalizer : Type 0 where
    no_finally : Finalizer
    finally : Statements → Finalizer

  pub data Statements : Type 0 where
    no_statements : Statements
    a_statement : Statement → Statements → Statements
