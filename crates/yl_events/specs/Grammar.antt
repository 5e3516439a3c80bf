-- Meaning: the grammar of a document over its marked lexemes: YAML 1.2.2, 7.4 and 7.5 (nodes, flow
-- collections), 8.2 (block collections), 9.1 and 9.2 (documents). A derivation is a tree, and has a
-- spelling, which stands before the symbols that follow. A Value without a key belongs to the Key
-- before it, if that has none yet: `Keyed`.
use Rattle.std.specs.Prelude.{ℕ, List, [], ◌∷◌, Option, Some, None}
use Rattle.yl_lexeme.specs.declared.lexeme.Kind.{Kind}
use Rattle.yl_lexeme.specs.declared.lexeme.Style.{Style}
use Rattle.yl_marks.specs.declared.symbol.Symbol.{Symbol}
use Rattle.yl_marks.specs.declared.symbol.Symbol.TheVariants.{OpenSequence, OpenMapping, BeginKey, Close, One}
use Rattle.yl_events.specs.declared.symbol.BracketKind.{BracketKind}
use Rattle.yl_events.specs.declared.symbol.BracketKind.TheVariants.{Square, Curly}
use Rattle.yl_events.specs.declared.symbol.Properties.{Properties}
use Rattle.yl_events.specs.declared.symbol.Properties.TheVariants.{Anchored, Tagged, AnchoredTagged, TaggedAnchored}

mutual
  -- a node that may be a key: an alias, properties, or a scalar or matched brackets
  pub data Inline : Type 0 where
    AliasNode : (spot : ℕ) → Inline
    PropertiesNode : (ps : Properties) → Inline
    ScalarNode : (ps : Option Properties) (style : Style) (spot : ℕ) → Inline
    Flow : (ps : Option Properties) (b : BracketKind) (first : ℕ) (items : Items) (last : ℕ) → Inline

  -- [item, (Comma item)*, [Comma]]
  pub data Items : Type 0 where
    NoItem : Items
    LastItem : (item : Item) → Items
    MoreItems : (item : Item) (comma : ℕ) (more : Items) → Items

  pub data Item : Type 0 where
    NodeItem : (node : Inline) → Item
    PairItem : (at : ℕ) (key : Inline) (colon : ℕ) (value : Node) → Item
    KeyItem : (mark : ℕ) (key : Node) → Item
    KeyValueItem : (mark : ℕ) (key : Node) (colon : ℕ) (value : Node) → Item
    ValueItem : (colon : ℕ) (value : Node) → Item

  -- [node]
  pub data Node : Type 0 where
    Missing : Node
    InlineNode : (node : Inline) → Node
    BlockSequence : (ps : Option Properties) (at : ℕ) (entries : Entries) → Node
    BlockMapping : (ps : Option Properties) (at : ℕ) (pairs : Pairs) → Node

  -- (Entry [node])*; no marks open an empty block sequence
  pub data Entries : Type 0 where
    NoEntry : Entries
    MoreEntries : (dash : ℕ) (node : Node) (more : Entries) → Entries

  -- [value]
  pub data Value : Type 0 where
    NodeValue : (node : Node) → Value
    Indentless : (ps : Option Properties) (dash : ℕ) (node : Node) (more : Entries) → Value

  -- entry*; no marks open an empty block mapping
  pub data Pairs : Type 0 where
    ValueEntry : (colon : ℕ) (value : Value) (more : Pairs) → Pairs
    Others : (more : Keyed) → Pairs

  -- entries of a block mapping, the first of which is no Value without a key: that one would belong
  -- to the Key before it
  pub data Keyed : Type 0 where
    NoPair : Keyed
    PairEntry : (at : ℕ) (key : Inline) (colon : ℕ) (value : Value) (more : Pairs) → Keyed
    KeyEntry : (mark : ℕ) (key : Value) (more : Keyed) → Keyed
    KeyValueEntry : (mark : ℕ) (key : Value) (colon : ℕ) (value : Value) (more : Pairs) → Keyed

-- Directive* [DocStart]; after a Directive the DocStart must be there
pub data Start : Type 0 where
  Bare : Start
  Marked : (directives : List ℕ) (start : ℕ) → Start

pub record Document : Type 0 where
  pub start : Start
  pub node : Node
  pub end : Option ℕ

-- ---- spellings, before the symbols that follow

abbrev pub properties : Properties → List Symbol → List Symbol
properties (Anchored a) rest = One Kind.Anchor a ∷ rest
properties (Tagged t) rest = One Kind.Tag t ∷ rest
properties (AnchoredTagged a t) rest = One Kind.Anchor a ∷ One Kind.Tag t ∷ rest
properties (TaggedAnchored t a) rest = One Kind.Tag t ∷ One Kind.Anchor a ∷ rest

abbrev pub optional : Option Properties → List Symbol → List Symbol
optional None rest = rest
optional (Some ps) rest = properties ps rest

abbrev pub opening : BracketKind → Kind
opening Square = Kind.SeqOpen
opening Curly = Kind.MapOpen

abbrev pub closing : BracketKind → Kind
closing Square = Kind.SeqClose
closing Curly = Kind.MapClose

abbrev mutual
  pub inline : Inline → List Symbol → List Symbol
  inline (AliasNode s) rest = One Kind.Alias s ∷ rest
  inline (PropertiesNode ps) rest = properties ps rest
  inline (ScalarNode ps style s) rest = optional ps (One (Kind.Scalar style) s ∷ rest)
  inline (Flow ps b first its last) rest = optional ps (One (opening b) first ∷ items its (One (closing b) last ∷ rest))

  pub items : Items → List Symbol → List Symbol
  items NoItem rest = rest
  items (LastItem i) rest = item i rest
  items (MoreItems i comma more) rest = item i (One Kind.Comma comma ∷ items more rest)

  pub item : Item → List Symbol → List Symbol
  item (NodeItem n) rest = inline n rest
  item (PairItem at k colon v) rest = BeginKey at ∷ inline k (One Kind.Value colon ∷ node v rest)
  item (KeyItem mark k) rest = One Kind.Key mark ∷ node k rest
  item (KeyValueItem mark k colon v) rest = One Kind.Key mark ∷ node k (One Kind.Value colon ∷ node v rest)
  item (ValueItem colon v) rest = One Kind.Value colon ∷ node v rest

  pub node : Node → List Symbol → List Symbol
  node Missing rest = rest
  node (InlineNode n) rest = inline n rest
  node (BlockSequence ps at es) rest = optional ps (OpenSequence at ∷ entries es (Close ∷ rest))
  node (BlockMapping ps at more) rest = optional ps (OpenMapping at ∷ pairs more (Close ∷ rest))

  pub entries : Entries → List Symbol → List Symbol
  entries NoEntry rest = rest
  entries (MoreEntries dash n more) rest = One Kind.Entry dash ∷ node n (entries more rest)

  pub value : Value → List Symbol → List Symbol
  value (NodeValue n) rest = node n rest
  value (Indentless ps dash n more) rest = optional ps (One Kind.Entry dash ∷ node n (entries more rest))

  pub pairs : Pairs → List Symbol → List Symbol
  pairs (ValueEntry colon v more) rest = One Kind.Value colon ∷ value v (pairs more rest)
  pairs (Others more) rest = keyed more rest

  pub keyed : Keyed → List Symbol → List Symbol
  keyed NoPair rest = rest
  keyed (PairEntry at k colon v more) rest = BeginKey at ∷ inline k (One Kind.Value colon ∷ value v (pairs more rest))
  keyed (KeyEntry mark k more) rest = One Kind.Key mark ∷ value k (keyed more rest)
  keyed (KeyValueEntry mark k colon v more) rest = One Kind.Key mark ∷ value k (One Kind.Value colon ∷ value v (pairs more rest))

abbrev pub directives : List ℕ → List Symbol → List Symbol
directives [] rest = rest
directives (d ∷ ds) rest = One Kind.Directive d ∷ directives ds rest

abbrev pub start : Start → List Symbol → List Symbol
start Bare rest = rest
start (Marked ds s) rest = directives ds (One Kind.DocStart s ∷ rest)

abbrev pub ending : Option ℕ → List Symbol
ending None = []
ending (Some s) = One Kind.DocEnd s ∷ []

abbrev pub spelling : Document → List Symbol
spelling d = start d.start (node d.node (ending d.end))
