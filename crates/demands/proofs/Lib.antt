pub mod Demands
pub mod Previews
pub mod PreviewImages
pub mod PreviewExample
