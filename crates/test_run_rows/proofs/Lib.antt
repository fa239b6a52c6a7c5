mod Computed
mod Previews
